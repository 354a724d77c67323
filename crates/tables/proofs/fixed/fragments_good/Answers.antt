-- `tables::fixed::fragments_good` meets its contract: each fragment is tested with the one after it.
-- Assumes nothing.
use Rattle.std.proofs.Common.{◌≡◌, ◌+◌, ◌∙◌, ℕ, Bool, true, false, refl, rules, get_or}
use Rattle.std.proofs.lemmas.Iterator.{cases_from_all, YieldsList-from_range}
use Rattle.tables.specs.Entries.{fragment_good, between}
use Rattle.tables.proofs.EntryLaws.{all_is, fragments_of}
use Rattle.tables.proofs.fixed.fragments_good.Goals as goal

pub returns : goal.returns
returns c =
    let a = c.args in
    let e = c.end-end.result in
    let good : ℕ → Bool = λ k. fragment_good a.limit (get_or a.fragments.now k 0) (between (k + 1) e a.fragments.now) in
    all_is good _ _ (cases_from_all _ _ _ (λ k. true ≡ good k) (λ k. false ≡ good k) c.all.ensures.ran (YieldsList-from_range a.q.index e _ refl refl) (λ x q k. search rules) (λ x q k. search rules))
    ∙ fragments_of a.limit a.fragments.now a.q e c.end-end.ensures c.requires
