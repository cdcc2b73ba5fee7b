use Rattle.std.proofs.Common.{◌+◌, ◌%◌, ◌<◌, length, refl, ap, ◌∙◌, arith}
use Rattle.std.proofs.lemmas.List.{length-set}
use Rattle.grid.specs.Cells.{grid_rows}
use Rattle.register.specs.Rules.{lawful}
use Rattle.grid.proofs.Cells.{grid_length, grid_set_row, kept_after}
use Rattle.register.proofs.Sets.{lawful_set}
use Rattle.grid.proofs.Room.{room}
use Rattle.grid.proofs.GridStore.write.Goals as goal

pub offset_bounds-self-place : goal.offset_bounds-self-place
offset_bounds-self-place c = omega (arith, room c.args.self.now c.args.place (c.args.free + c.args.held) c.requires.within c.requires.fits)

pub bounds-self-place : goal.bounds-self-place
bounds-self-place c = omega (arith, room c.args.self.now c.args.place (c.args.free + c.args.held) c.requires.within c.requires.fits)

pub overflow_add-total : goal.overflow_add-total
overflow_add-total c = omega (arith, room c.args.self.now c.args.place (c.args.free + c.args.held) c.requires.within c.requires.fits)

pub overflow_sub-total : goal.overflow_sub-total
overflow_sub-total c = omega (arith, room c.args.self.now c.args.place (c.args.free + c.args.held) c.requires.within c.requires.fits)

pub offset_bounds-self-place-2 : goal.offset_bounds-self-place-2
offset_bounds-self-place-2 c = omega (arith, room c.args.self.now c.args.place (c.args.free + c.args.held) c.requires.within c.requires.fits)

pub bounds-self-place-2 : goal.bounds-self-place-2
bounds-self-place-2 c = omega (arith, room c.args.self.now c.args.place (c.args.free + c.args.held) c.requires.within c.requires.fits)

pub overflow_add-self : goal.overflow_add-self
overflow_add-self c = omega (arith, room c.args.self.now c.args.place (c.args.free + c.args.held) c.requires.within c.requires.fits)

pub overflow_add-self-2 : goal.overflow_add-self-2
overflow_add-self-2 c = omega (arith, room c.args.self.now c.args.place (c.args.free + c.args.held) c.requires.within c.requires.fits)

pub invariant_of-self : goal.invariant_of-self
invariant_of-self c =
    let s = c.args.self.now in
    let r = room s c.args.place (c.args.free + c.args.held) c.requires.within c.requires.fits in
    let l : c.args.place < length s.cells = omega (arith, s.wide) in
    let k = kept_after s.cells s.totals c.args.place (record { free = c.args.free; held = c.args.held }) l s.long s.kept in
    let law = lawful_set (grid_rows s.cells) c.args.place c.args.free c.args.held s.ruled c.requires.within c.requires.fits in
    record { wide = length-set s.cells c.args.place _ ∙ s.wide; long = length-set s.totals (c.args.place % 16) _ ∙ s.long; kept = k; ruled = ap lawful (grid_set_row s.cells c.args.place c.args.free c.args.held l) ∙ law }

pub returns : goal.returns
returns c = record { stays = refl; sets = grid_set_row c.args.self.now.cells c.args.place c.args.free c.args.held (omega (arith, grid_length c.args.self.now.cells, c.requires.within)) }
