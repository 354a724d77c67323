-- `assign::run::run` meets its contract: each turn is one pop of the rules' run, and what is left to run is what there was to run.
-- Assumes nothing.
use Rattle.assign.proofs.RunLaws.{Going}
use Rattle.assign.proofs.run.run.Given as goal

abbrev pub invariant-loop-turn : goal.invariant-loop-turn
invariant-loop-turn l = Going l.tables.instructions l.mode l.tables.classes.now l.tables.registers.now l.tables.fragments.now l.tables.intervals.now l.tables.mentions.now l.tables.safepoints.now l.cap l.initial.work l.work l.c l.t l.free l.turn
