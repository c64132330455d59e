use Rattle.std.proofs.Common.{List, ◌++◌, ◌∷◌, [], ap, sym, ◌∙◌, append-nil, slice_range, length, arith}
use Rattle.gabc_places.specs.BoundedList.{BoundedList, extended_by}
use Rattle.gabc_neumes.specs.declared.glyph.Glyph.{Glyph}
use Rattle.gabc_neumes.proofs.RoomsGrow.{extended-more}
use Rattle.gabc_neumes.proofs.glyphs_of_notes.GlyphsOneByOne.{cutting_start, cutting_push, cutting_end, room_for, slice_rest}
use Rattle.gabc_neumes.proofs.glyphs.cut.Goals as goal

pub loop-kind-init : goal.loop-kind-init
loop-kind-init c = ([], cutting_start c.args.notes.now, ap (λ (x : List Glyph). record c.args.out.now { items = x }) (sym (append-nil c.args.out.now.items)))

pub push-requires : goal.push-requires
push-requires c =
    let i = c.loop-kind.invariant in
    rw i.2 (room_for c.args.notes.now (slice_range c.args.notes.now c.loop-kind.at (length c.args.notes.now)) i.0 c.loop-kind.at c.in-Some.count c.in-Some.kind c.args.out.now (slice_rest c.args.notes.now c.loop-kind.at) c.in-Some.ensures.found i.1 c.requires)

pub loop-kind-preserved : goal.loop-kind-preserved
loop-kind-preserved c =
    let i = c.loop-kind.invariant in
    let g : Glyph = record { kind = c.in-Some.kind; first = c.loop-kind.at; count = c.in-Some.count } in (
      i.0 ++ g ∷ [],
      cutting_push c.args.notes.now (slice_range c.args.notes.now c.loop-kind.at (length c.args.notes.now)) i.0 c.loop-kind.at c.in-Some.count c.in-Some.kind (slice_rest c.args.notes.now c.loop-kind.at) c.in-Some.ensures.found i.1,
      c.push.ensures ∙ ap (λ (x : BoundedList Glyph). extended_by x (g ∷ [])) i.2 ∙ extended-more c.args.out.now i.0 (g ∷ []),
    )

pub returns : goal.returns
returns c = grind (arith, cutting_end, slice_rest)
