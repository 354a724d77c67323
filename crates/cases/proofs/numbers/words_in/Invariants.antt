-- A word is read only while the lent table has room.
use Rattle.std.proofs.Common.{length, ◌≤◌, ◌≡◌}
use Rattle.cases.proofs.numbers.words_in.Given as goal

abbrev pub invariant-loop-word : goal.invariant-loop-word
invariant-loop-word l =
    (goal.iterator-loop-word).can_next l.word-iterator
    × (goal.iterator-loop-word).is_finite l.word-iterator
    × (l.n ≤ length l.out)
    × (length l.out ≡ length l.initial.out)
