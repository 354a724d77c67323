-- `assign::run::run` meets its contract: each turn is one pop of the rules' run, and what is left to run is what there was to run.
-- Assumes nothing.
use Rattle.assign.proofs.RunLaws.{going_few, going_starts, going_turns, going_empty, going_out, going_tracks, going_faces, going_takes, did_settle, still_steps, did_contend, going_on, going_off}
use Rattle.words.proofs.Residual.{passed}
use borrow.Author.Rules.{rules}
use Rattle.assign.proofs.run.run.Goals as goal

pub fresh-t-requires : goal.fresh-t-requires
fresh-t-requires c = search going_few

pub loop-turn-init : goal.loop-turn-init
loop-turn-init c = search going_starts

pub returns-then-c-eq0 : goal.returns-then-c-eq0
returns-then-c-eq0 c = search going_empty

pub front-f-requires : goal.front-f-requires
front-f-requires c = record { turning = search going_turns; queued_nonzero = search rules }

pub track-requires : goal.track-requires
track-requires c = search going_tracks

pub free_row-requires : goal.free_row-requires
free_row-requires c = search going_faces

pub settle-requires : goal.settle-requires
settle-requires c = going_takes _ _ _ _ _ _ _ _ _ _ _ _ _ _ _ c.loop-turn.invariant _ _ c.front-f.ensures

pub returns-in_err-c : goal.returns-in_err-c
returns-in_err-c c =
    let d = did_settle _ _ _ _ _ _ _ _ _ _ _ _ _ _ _ c.loop-turn.invariant _ _ c.front-f.ensures _ c.free_row.ensures _ _ c.settle.ensures _ c.in-Some.is in
    rw (passed _ _ c.from_residual.ensures.1) (search (going_off, c.in_err-c.was))

pub loop-turn-preserved-in-Some : goal.loop-turn-preserved-in-Some
loop-turn-preserved-in-Some c =
    let d = did_settle _ _ _ _ _ _ _ _ _ _ _ _ _ _ _ c.loop-turn.invariant _ _ c.front-f.ensures _ c.free_row.ensures _ _ c.settle.ensures _ c.in-Some.is in
    search (going_on, c.in_ok-c.was)

pub contend-requires : goal.contend-requires
contend-requires c = still_steps _ _ _ _ _ _ _ _ _ _ _ _ _ _ _ c.loop-turn.invariant _ _ c.front-f.ensures _ c.free_row.ensures _ _ c.settle.ensures _ c.track.ensures c.in_default.is

pub returns-in_err-c-2 : goal.returns-in_err-c-2
returns-in_err-c-2 c =
    let d = did_contend _ _ _ _ _ _ _ _ _ _ _ _ _ _ _ c.loop-turn.invariant _ _ c.front-f.ensures _ c.free_row.ensures _ _ c.settle.ensures _ _ c.in_default.is c.contend.ensures in
    rw (passed _ _ c.from_residual-in_err-c-2.ensures.1) (search (going_off, c.in_err-c-2.was))

pub loop-turn-preserved : goal.loop-turn-preserved
loop-turn-preserved c =
    let d = did_contend _ _ _ _ _ _ _ _ _ _ _ _ _ _ _ c.loop-turn.invariant _ _ c.front-f.ensures _ c.free_row.ensures _ _ c.settle.ensures _ _ c.in_default.is c.contend.ensures in
    search (going_on, c.in_ok-c-2.was)

pub returns : goal.returns
returns c = search going_out
