-- The tournament, of which each workload is made: players, cups and matches.
--
--   tournament     its canonical text
use Rattle.std.specs.Prelude.{ℕ, List, codes}

-- its canonical text
unfoldable pub tournament : List ℕ
tournament = codes "sort player\nsort cup\npred player(player) addwins\npred tourn(cup) addwins\npred enrolled(player,cup) addwins\npred active(cup) remwins\npred finished(cup) addwins\npred inmatch(player,player,cup) remwins\nclause c1(p:player,t:cup): not enrolled(p,t) or player(p)\nclause c2(p:player,t:cup): not enrolled(p,t) or tourn(t)\nclause c3(p:player,q:player,t:cup): not inmatch(p,q,t) or enrolled(p,t)\nclause c4(p:player,q:player,t:cup): not inmatch(p,q,t) or enrolled(q,t)\nclause c5(p:player,q:player,t:cup): not inmatch(p,q,t) or active(t) or finished(t)\nclause c6(t:cup): not active(t) or tourn(t)\nclause c7(t:cup): not finished(t) or tourn(t)\nclause c8(t:cup): not active(t) or not finished(t)\nop add_player(p:player)\nadd player(p)\nop rem_player(p:player)\ndel player(p)\nop add_tourn(t:cup)\nadd tourn(t)\nop rem_tourn(t:cup)\ndel tourn(t)\ndel active(t)\ndel inmatch(*,*,t)\nop enroll(p:player,t:cup)\nneed player(p)\nneed tourn(t)\nadd enrolled(p,t)\nadd player(p)\nadd tourn(t)\nop disenroll(p:player,t:cup)\ndel enrolled(p,t)\ndel inmatch(p,*,t)\ndel inmatch(*,p,t)\nop begin(t:cup)\nneed tourn(t)\nneed not finished(t)\nadd active(t)\nadd tourn(t)\nop finish(t:cup)\nneed active(t)\ndel active(t)\nadd finished(t)\nadd tourn(t)\nop match(p:player,q:player,t:cup)\nneed enrolled(p,t)\nneed enrolled(q,t)\nneed active(t)\nneed p != q\nadd inmatch(p,q,t)\nadd enrolled(p,t)\nadd enrolled(q,t)\nadd player(p)\nadd player(q)\nadd tourn(t)\nbound cap enrolled(p,t) counts p most 3\ndrops inmatch(p,*,t)\ndrops inmatch(*,p,t)\n"
