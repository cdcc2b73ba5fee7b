-- The lines of one issue after another. Assumes nothing.
use Rattle.std.proofs.Common.{◌≡◌, ℕ, ◌+◌, ◌-◌, ◌<◌, ◌≤◌, List, [], ◌∷◌, ◌++◌, get_or, take, sym, ap, ◌∙◌, arith}
use Rattle.std.specs.List.{flat_map}
use Rattle.std.proofs.lemmas.List.{take_more, take_all, flat_map_more}
use Rattle.std.proofs.lemmas.List.FromFn.{length-range_with_len, get_or-range_with_len}
use Rattle.register.specs.Rules.{issues}

pub issue_more : (f : ℕ → List ℕ) (i : ℕ) → 1 ≤ i → i < 17 → flat_map f (take (i - 1) issues) ++ f i ≡ flat_map f (take (i + 1 - 1) issues)
unfolding issues
issue_more f i low high =
    let at : get_or issues (i - 1) 0 ≡ i = get_or-range_with_len 1 16 (i - 1) 0 (omega arith) ∙ omega arith in
    let next : take (i - 1 + 1) issues ≡ take (i - 1) issues ++ (i ∷ []) = take_more issues (i - 1) 0 (omega (arith, length-range_with_len 1 16)) ∙ ap (λ k. take (i - 1) issues ++ (k ∷ [])) at in
    flat_map_more f [] (take (i - 1) issues) i ∙ ap (flat_map f) (sym next) ∙ ap (λ k. flat_map f (take k issues)) (omega arith)

pub issues_end : (i : ℕ) → 17 ≤ i → take (i - 1) issues ≡ issues
unfolding issues
issues_end i high = take_all (i - 1) issues (omega (arith, length-range_with_len 1 16))
