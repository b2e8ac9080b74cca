-- Specifications that can be printed.
--
--   IsPrintable s   the specification has no fault, its clauses have literals, its lists of places have three places, and
--                   no variable hides a constant that is named
--
-- So has each specification of a document, and what is made of one by offers.
use Rattle.ipa_spec.specs.Limits.{IsFaultless}
use Rattle.ipa_spec.specs.declared.specification.Specification.{Specification}
use Rattle.ipa_canonical.specs.Hidden.{HidesNoConstant}
use Rattle.ipa_canonical.specs.Sentences.{HasLiterals}
use Rattle.ipa_canonical.specs.Shapes.{IsShaped}

pub record IsPrintable (s : Specification) : Type 0 where
  pub faultless : IsFaultless s
  pub shaped : IsShaped s
  pub literals : HasLiterals s
  pub named : HidesNoConstant s
