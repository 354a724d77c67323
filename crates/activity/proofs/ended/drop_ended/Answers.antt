-- `activity::ended::drop_ended` meets its contract: after each turn the first `kept` active records are those of the first `i` that stay, and from `i` on nothing has changed.
use Rattle.activity.proofs.EndedLaws.{dropping_starts, dropping_movable, dropping_more, dropping_ends}
use Rattle.activity.proofs.ended.drop_ended.Goals as goal

pub loop-i-init : goal.loop-i-init
loop-i-init c = search dropping_starts

pub moved_up-kept-requires : goal.moved_up-kept-requires
moved_up-kept-requires c = search dropping_movable

pub loop-i-preserved : goal.loop-i-preserved
loop-i-preserved c = search dropping_more

pub returns : goal.returns
returns c = search dropping_ends
