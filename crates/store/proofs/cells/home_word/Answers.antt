-- `store::cells::home_word` meets its contract: each arm is a case of `home_word`.
use Rattle.store.proofs.WordLaws.{word_none, word_some}
use Rattle.store.proofs.cells.home_word.Goals as goal

pub returns-in-None : goal.returns-in-None
returns-in-None c = search word_none

pub returns-in-Some : goal.returns-in-Some
returns-in-Some c = search word_some
