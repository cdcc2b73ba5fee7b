use Rattle.std.proofs.Common.{◌≡◌, true, sym, ap, ◌∙◌, rules}
use Rattle.rows.specs.Checks.{acceptable, meant}
use Rattle.register.specs.Rules.{answer, after, settled}
use Rattle.rows.proofs.Lends.{meant_before, meant_after, untouched}
use Rattle.register_tests.proofs.settle_in_rows.Goals as goal

pub returns : goal.returns
returns c =
    let s = c.new-register.result in
    let t = c.settle.new.self in
    let e = c.new-register.ensures in
    let stays = c.settle.ensures.stays in
    let before : acceptable c.args.rows.now ≡ true → meant s.usable s.rows.now ≡ c.args.rows.now = λ a.
    meant_before s.rows.ghost_name t.rows.ghost_name s.usable t.usable s.rows.now t.rows.now stays (e.usable ∙ a) ∙ e.kept in
    record {
      answers = λ a. c.settle.ensures.answers ∙ ap (λ rs. answer (settled c.args.seller c.args.buyer c.args.issue c.args.q rs)) (before a);
      leaves = λ a.
          let m : t.rows.now ≡ after c.args.rows.now (settled c.args.seller c.args.buyer c.args.issue c.args.q c.args.rows.now) =
          sym (meant_after s.rows.ghost_name t.rows.ghost_name s.usable t.usable s.rows.now t.rows.now stays (e.usable ∙ a))
          ∙ c.settle.ensures.leaves
          ∙ ap (λ rs. after rs (settled c.args.seller c.args.buyer c.args.issue c.args.q rs)) (before a) in
          search rules;
      untouched = λ a.
          let m : t.rows.now ≡ c.args.rows.now = untouched s.rows.ghost_name t.rows.ghost_name s.usable t.usable s.rows.now t.rows.now stays (e.usable ∙ a) ∙ e.kept in
          search rules;
    }
