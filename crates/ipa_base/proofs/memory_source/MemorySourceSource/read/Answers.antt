use Rattle.std.proofs.Common.{ℕ, List, sym, ◌∙◌, ap}
use Rattle.ipa_base.specs.Memory.{SourceState}
use Rattle.ipa_base.proofs.Told.{drop-given, none-given}
use Rattle.ipa_base.proofs.memory_source.MemorySourceSource.read.Goals as goal

pub returns-clause-bytes : goal.returns-clause-bytes
returns-clause-bytes c =
    let left : SourceState → List ℕ = λ s. s.left in
    let copied = rw c.deref.ensures.value at c.copy_front-count.ensures.copied in
    let count = rw c.deref.ensures.value at c.copy_front-count.ensures.count in (
      sym (ap left c.self.view_is) ∙ drop-given _ _ _ _ copied,
      none-given _ _ _ _ _ _ c.self.invariant.0 c.copy_front-count.auto.into count,
    )
