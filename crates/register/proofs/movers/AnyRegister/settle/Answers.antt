use Rattle.std.proofs.Common.{Err, sym, refl, ap, ◌∙◌, arith}
use Rattle.std.proofs.lemmas.Result.{err_from_is_err_and}
use Rattle.register.specs.Rules.{answer, after}
use Rattle.register.proofs.Places.{placed, read_at, read_le, read_fits}
use Rattle.register.proofs.Moves.{taken, not_taken, refused_by, settled_short, settled_done, settled_total, settled_read}
use Rattle.register.proofs.movers.AnyRegister.settle.Goals as goal

pub returns-in_err-held : goal.returns-in_err-held
returns-in_err-held g c =
    let r = read_at c.args.seller c.args.issue _ _ _ _ (g.T.Store.lawfully c.args.self.now) c.find.ensures c.in_ok-from.ensures.ok_part c.figures-free.ensures in
    let o = placed c.args.buyer c.args.issue _ _ _ c.find-2.ensures c.in_ok-to.ensures.ok_part in
    let e = settled_short r c.args.buyer c.args.q _ o (not_taken _ _ _ c.checked_sub.ensures c.in_err-held.ensures.ok_part) in
    let f = err_from_is_err_and c.from_residual-in_err-held.result c.from_residual-in_err-held.ensures.1 in
    record { answers = f.1 ∙ ap Err (f.2 ∙ refused_by _ _ _ c.in_err-held.ensures.value c.in_err-held.ensures.ok_part) ∙ ap answer (sym e); leaves = ap (after _) (sym e); stays = refl; keeps = λ _. refl }

pub write-requires-clause-fits : goal.write-requires-clause-fits
write-requires-clause-fits g c =
    let r = read_at c.args.seller c.args.issue _ _ _ _ (g.T.Store.lawfully c.args.self.now) c.find.ensures c.in_ok-from.ensures.ok_part c.figures-free.ensures in
    let o = placed c.args.buyer c.args.issue _ _ _ c.find-2.ensures c.in_ok-to.ensures.ok_part in
    let t = taken _ _ _ _ c.checked_sub.ensures c.in_ok-held.ensures.ok_part in
    let l = read_le r in
    read_fits r _ (omega arith)

pub overflow_add-free : goal.overflow_add-free
overflow_add-free g c =
    let r = read_at c.args.seller c.args.issue _ _ _ _ (g.T.Store.lawfully c.args.self.now) c.find.ensures c.in_ok-from.ensures.ok_part c.figures-free.ensures in
    let o = placed c.args.buyer c.args.issue _ _ _ c.find-2.ensures c.in_ok-to.ensures.ok_part in
    let t = taken _ _ _ _ c.checked_sub.ensures c.in_ok-held.ensures.ok_part in
    let b = settled_read r c.args.buyer c.args.q _ o t c.write.ensures.sets (g.T.Store.lawfully c.write.new.self) _ c.figures-free-2.ensures in
    let l = read_le r in
    let m = read_le b in
    let n = settled_total r c.args.buyer c.args.q _ o t c.write.ensures.sets in
    omega arith

pub write-requires-2 : goal.write-requires-2
write-requires-2 g c =
    let r = read_at c.args.seller c.args.issue _ _ _ _ (g.T.Store.lawfully c.args.self.now) c.find.ensures c.in_ok-from.ensures.ok_part c.figures-free.ensures in
    let o = placed c.args.buyer c.args.issue _ _ _ c.find-2.ensures c.in_ok-to.ensures.ok_part in
    let t = taken _ _ _ _ c.checked_sub.ensures c.in_ok-held.ensures.ok_part in
    let b = settled_read r c.args.buyer c.args.q _ o t c.write.ensures.sets (g.T.Store.lawfully c.write.new.self) _ c.figures-free-2.ensures in
    let l = read_le r in
    let n = settled_total r c.args.buyer c.args.q _ o t c.write.ensures.sets in
    record { within = b.place.within; fits = read_fits b _ (omega arith) }

pub returns-clause-answers : goal.returns-clause-answers
returns-clause-answers g c =
    let r = read_at c.args.seller c.args.issue _ _ _ _ (g.T.Store.lawfully c.args.self.now) c.find.ensures c.in_ok-from.ensures.ok_part c.figures-free.ensures in
    let o = placed c.args.buyer c.args.issue _ _ _ c.find-2.ensures c.in_ok-to.ensures.ok_part in
    let t = taken _ _ _ _ c.checked_sub.ensures c.in_ok-held.ensures.ok_part in
    let b = settled_read r c.args.buyer c.args.q _ o t c.write.ensures.sets (g.T.Store.lawfully c.write.new.self) _ c.figures-free-2.ensures in
    ap answer (sym (settled_done r c.args.buyer c.args.q _ o t c.write.ensures.sets b))

pub returns-clause-leaves : goal.returns-clause-leaves
returns-clause-leaves g c =
    let r = read_at c.args.seller c.args.issue _ _ _ _ (g.T.Store.lawfully c.args.self.now) c.find.ensures c.in_ok-from.ensures.ok_part c.figures-free.ensures in
    let o = placed c.args.buyer c.args.issue _ _ _ c.find-2.ensures c.in_ok-to.ensures.ok_part in
    let t = taken _ _ _ _ c.checked_sub.ensures c.in_ok-held.ensures.ok_part in
    let b = settled_read r c.args.buyer c.args.q _ o t c.write.ensures.sets (g.T.Store.lawfully c.write.new.self) _ c.figures-free-2.ensures in
    c.write-2.ensures.sets ∙ ap (after _) (sym (settled_done r c.args.buyer c.args.q _ o t c.write.ensures.sets b))
