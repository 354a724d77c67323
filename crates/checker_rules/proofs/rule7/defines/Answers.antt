-- `rule7::defines` meets its contract: a mention at s is the one that the search finds, and it has the Def point if it is a mod or a def.
-- Assumes nothing.
use Rattle.checker_rules.proofs.SafeLaws.{def_other, def_is}
use Rattle.checker_rules.proofs.rule7.defines.Goals as goal

pub returns-else-m : goal.returns-else-m
returns-else-m c = search def_is

pub returns-else-m-s : goal.returns-else-m-s
returns-else-m-s c = search def_other
