use Rattle.std.proofs.Common.{rules, ◌≡◌, ℕ, List, codes, refl, sym, ap, ◌∙◌, arith}
use Rattle.std.specs.Fmt.{digits}
use Rattle.gabc_notes.specs.declared.note.Shape.TheVariants as shape
use Rattle.gabc_neumes.specs.declared.glyph.Base.{Base}
use Rattle.gabc_neumes.specs.declared.glyph.Base.TheVariants.{Pes, Clivis, Torculus, Porrectus, Scandicus, One}
use Rattle.gabc_neumes.specs.declared.glyph.Tail.{Tail}
use Rattle.gabc_neumes.specs.declared.glyph.Tail.TheVariants.{Plain}
use Rattle.gabc_neumes.specs.declared.glyph.GlyphKind.{GlyphKind}
use Rattle.gabc_write.specs.DumpOfNotes.{line_of_glyph}
use Rattle.gabc_write.proofs.dump_notes.put_glyph.Goals as goal

abbrev line : Base → Tail → ℕ → List ℕ
line base tail count = line_of_glyph (record { kind = record { base = base; tail = tail }; first = 0; count = count })

-- the line of a glyph without a tail
line_is : (kind : GlyphKind) (base : Base) (count n : ℕ) → kind.tail ≡ Plain → kind.base ≡ base → count ≡ n → line base Plain n ≡ line_of_glyph (record { kind = kind; first = 0; count = count })
line_is kind base count n t b c = sym (ap (λ (x : Tail). line kind.base x count) t ∙ (ap (λ (x : Base). line x Plain count) b ∙ ap (line base Plain) c))

punctum : codes "glyph punctum 1\n" ≡ line (One shape.Punctum) Plain 1
unfolding digits
punctum = refl

pes : codes "glyph pes 2\n" ≡ line Pes Plain 2
unfolding digits
pes = refl

clivis : codes "glyph clivis 2\n" ≡ line Clivis Plain 2
unfolding digits
clivis = refl

torculus : codes "glyph torculus 3\n" ≡ line Torculus Plain 3
unfolding digits
torculus = refl

porrectus : codes "glyph porrectus 3\n" ≡ line Porrectus Plain 3
unfolding digits
porrectus = refl

scandicus : codes "glyph scandicus 3\n" ≡ line Scandicus Plain 3
unfolding digits
scandicus = refl

pub returns-in-Plain-One-Punctum-eq1 : goal.returns-in-Plain-One-Punctum-eq1
returns-in-Plain-One-Punctum-eq1 g c =
    let here = c.in-Plain-One-Punctum-eq1 in
    c.put.ensures ∙ ap (g.S.Put.taken c.args.out.now) (punctum ∙ line_is c.args.kind (One shape.Punctum) c.args.count 1 here.is-0 (search rules) here.is-2)

pub returns-in-Plain-Pes-eq2 : goal.returns-in-Plain-Pes-eq2
returns-in-Plain-Pes-eq2 g c =
    let here = c.in-Plain-Pes-eq2 in
    c.put-in-Plain-Pes-eq2.ensures ∙ ap (g.S.Put.taken c.args.out.now) (pes ∙ line_is c.args.kind Pes c.args.count 2 here.is-0 here.is-1 here.is-2)

pub returns-in-Plain-Clivis-eq2 : goal.returns-in-Plain-Clivis-eq2
returns-in-Plain-Clivis-eq2 g c = grind (arith, clivis, line_is)

pub returns-in-Plain-Torculus-eq3 : goal.returns-in-Plain-Torculus-eq3
returns-in-Plain-Torculus-eq3 g c =
    let here = c.in-Plain-Torculus-eq3 in
    c.put-in-Plain-Torculus-eq3.ensures ∙ ap (g.S.Put.taken c.args.out.now) (torculus ∙ line_is c.args.kind Torculus c.args.count 3 here.is-0 here.is-1 here.is-2)

pub returns-in-Plain-Porrectus-eq3 : goal.returns-in-Plain-Porrectus-eq3
returns-in-Plain-Porrectus-eq3 g c =
    let here = c.in-Plain-Porrectus-eq3 in
    c.put-in-Plain-Porrectus-eq3.ensures ∙ ap (g.S.Put.taken c.args.out.now) (porrectus ∙ line_is c.args.kind Porrectus c.args.count 3 here.is-0 here.is-1 here.is-2)

pub returns-in-Plain-Scandicus-eq3 : goal.returns-in-Plain-Scandicus-eq3
returns-in-Plain-Scandicus-eq3 g c =
    let here = c.in-Plain-Scandicus-eq3 in
    c.put-in-Plain-Scandicus-eq3.ensures ∙ ap (g.S.Put.taken c.args.out.now) (scandicus ∙ line_is c.args.kind Scandicus c.args.count 3 here.is-0 here.is-1 here.is-2)
