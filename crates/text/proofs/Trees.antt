-- Into a tree and out of it. Assumes nothing.
use Rattle.std.proofs.Common.{◌≡◌, ℕ, List, [], ◌∷◌, ◌++◌, refl}
use Rattle.text.specs.Tree.{Gram, lits, Lang}

pub lits_in : {C : Type 0} (w : List ℕ) (G : Gram C) (t : List ℕ) (c : C) → Lang G t c → Lang (lits w G) (w ++ t) c
lits_in [] G t c l = l
lits_in (b ∷ w) G t c l = (refl, lits_in w G t c l)

pub lits_out : {C : Type 0} (w : List ℕ) (G : Gram C) (t : List ℕ) (c : C) → Lang (lits w G) t c → (u : List ℕ) × (t ≡ w ++ u) × Lang G u c
lits_out [] G t c l = (t, refl, l)
lits_out (b ∷ w) G [] c l = absurd l
lits_out (b ∷ w) G (x ∷ t) c l =
    let r = lits_out w G t c l.1 in
    let e : x ≡ b = l.0 in
    let f : t ≡ w ++ r.0 = r.1 in
    (r.0, cc, r.2)
