-- Comparisons one after another: a chain of `cmp(..).then(..)` is less where the rules' chain of tests says so.
use Rattle.std.proofs.Common.{◌≡◌, ℕ, Bool, true, false, cond, nat_lt, nat_cmp, is_lt, refl, arith, Equal, Less, Greater}
use Rattle.std.specs.declared.cmp.Ordering.{Ordering}
use Rattle.std.specs.Ordering.{ordering_then, bool_cmp}
use Rattle.std.proofs.lemmas.Bool.Decides.{nat_tests}
use Prim.Native.Nat.{compare}
use Rattle.orders.specs.Rank.{lex}

-- numbers first, then what follows
pub numbers_first : (p q : ℕ) (o : Ordering) → is_lt (ordering_then (nat_cmp p q) o) ≡ lex (compare p q) (is_lt o)
numbers_first p q o = grind (arith, nat_tests)

pub numbers_last : (p q : ℕ) → is_lt (nat_cmp p q) ≡ nat_lt p q
numbers_last p q = grind (arith, nat_tests)

pub tests_first : (a b : Bool) (o : Ordering) → is_lt (ordering_then (bool_cmp a b) o) ≡ lex (compare (cond a 1 0) (cond b 1 0)) (is_lt o)
tests_first false false o = refl
tests_first false true o = refl
tests_first true false o = refl
tests_first true true o = refl

pub in_parts : (o p c s : Ordering) → ordering_then (ordering_then (ordering_then o p) c) s ≡ ordering_then o (ordering_then p (ordering_then c s))
in_parts Less p c s = refl
in_parts Greater p c s = refl
in_parts Equal Less c s = refl
in_parts Equal Greater c s = refl
in_parts Equal Equal c s = refl
