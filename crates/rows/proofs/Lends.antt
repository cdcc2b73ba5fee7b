-- For users: what the caller's rows are once a register over them is let go. b is the flag, n the rows' owner. Assumes nothing.
use Rattle.std.proofs.Common.{◌≡◌, ℕ, Bool, true, false, List, [], sym, ap, ◌∙◌}
use Rattle.std.proofs.lemmas.Bool.{cond-true, cond-false}
use Rattle.register.specs.declared.holding.Row.{Row}
use Rattle.rows.specs.Checks.{lent, meant}

module _ (n n' : ℕ) (b b' : Bool) (rs rs' : List Row) (stays : lent n' b' rs' ≡ lent n b rs) where
  pub same_owner : n' ≡ n
  same_owner = ap (λ p. p.0) stays

  same_flag : b' ≡ b
  same_flag = ap (λ p. p.1) stays

  -- flag up: the rows are what the register means, before and after
  pub meant_before : b ≡ true → meant b rs ≡ rs
  meant_before e = cond-true b rs [] e

  pub meant_after : b ≡ true → meant b' rs' ≡ rs'
  meant_after e = cond-true b' rs' [] (same_flag ∙ e)

  -- flag down: the rows are as they were
  pub untouched : b ≡ false → rs' ≡ rs
  untouched e = sym (cond-false b' [] rs' (same_flag ∙ e)) ∙ ap (λ p. p.2) stays ∙ cond-false b [] rs e
