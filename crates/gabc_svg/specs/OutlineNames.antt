-- The names of outlines.
use Rattle.std.specs.Prelude.{List, [], ◌∷◌, ℕ, codes, cond}
use Rattle.std.specs.Fmt.{decimal}
use Rattle.gabc_marks.specs.declared.hand.Hand.{Hand}
use Rattle.gabc_marks.specs.declared.hand.Hand.TheVariants as hand
use Rattle.gabc_marks.specs.declared.hand.NabcOutline.{NabcOutline}
use Rattle.gabc_marks.specs.declared.head.Head.{Head}
use Rattle.gabc_marks.specs.declared.head.Head.TheVariants as head
use Rattle.gabc_marks.specs.declared.head.Single.{Single}
use Rattle.gabc_marks.specs.declared.head.Single.TheVariants as single
use Rattle.gabc_marks.specs.declared.joined.Ending.{Ending}
use Rattle.gabc_marks.specs.declared.joined.Ending.TheVariants as ending
use Rattle.gabc_marks.specs.declared.joined.Family.{Family}
use Rattle.gabc_marks.specs.declared.joined.Family.TheVariants as family
use Rattle.gabc_marks.specs.declared.joined.Joined.{Joined}
use Rattle.gabc_marks.specs.declared.symbol.Symbol.{Symbol}
use Rattle.gabc_marks.specs.declared.symbol.Symbol.TheVariants as symbol

abbrev pub name_of_family : Family → List ℕ
name_of_family family.Pes = codes "pes"
name_of_family family.PesQuadratum = codes "pes-quadratum"
name_of_family family.PesQuassus = codes "pes-quassus"
name_of_family family.QuilismaPes = codes "quilisma-pes"
name_of_family family.QuilismaPesQuadratum = codes "quilisma-pes-quadratum"
name_of_family family.Flexus = codes "clivis"
name_of_family family.FlexusOriscus = codes "clivis-oriscus"
name_of_family family.Torculus = codes "torculus"
name_of_family family.TorculusQuilisma = codes "torculus-quilisma"
name_of_family family.Porrectus = codes "porrectus"
name_of_family family.Scandicus = codes "scandicus"
name_of_family family.Salicus = codes "salicus"
name_of_family family.TorculusResupinus = codes "torculus-resupinus"
name_of_family family.TorculusResupinusQuilisma = codes "torculus-resupinus-quilisma"
name_of_family family.PorrectusFlexus = codes "porrectus-flexus"

abbrev pub name_of_ending : Ending → List ℕ
name_of_ending ending.Plain = []
name_of_ending ending.Deminutus = codes "-deminutus"
name_of_ending ending.Ascendens = codes "-ascendens"
name_of_ending ending.Descendens = codes "-descendens"

abbrev pub name_of_single : Single → List ℕ
name_of_single single.Punctum = codes "punctum"
name_of_single single.PunctumOver = codes "punctum-over"
name_of_single single.PunctumUnder = codes "punctum-under"
name_of_single single.PunctumAscendens = codes "punctum-ascendens"
name_of_single single.PunctumDescendens = codes "punctum-descendens"
name_of_single single.PunctumDeminutus = codes "punctum-deminutus"
name_of_single single.Cavum = codes "cavum"
name_of_single single.Inclinatum = codes "inclinatum"
name_of_single single.InclinatumAuctus = codes "inclinatum-auctus"
name_of_single single.InclinatumDeminutus = codes "inclinatum-deminutus"
name_of_single single.InclinatumCavum = codes "inclinatum-cavum"
name_of_single single.Stropha = codes "stropha"
name_of_single single.StrophaAucta = codes "stropha-aucta"
name_of_single single.Quilisma = codes "quilisma"
name_of_single single.OriscusUp = codes "oriscus-up"
name_of_single single.OriscusDown = codes "oriscus-down"
name_of_single single.OriscusUpScapus = codes "oriscus-up-scapus"
name_of_single single.OriscusDownScapus = codes "oriscus-down-scapus"
name_of_single single.OriscusDeminutus = codes "oriscus-deminutus"
name_of_single single.Linea = codes "linea"
name_of_single single.LineaPunctum = codes "linea-punctum"
name_of_single single.Virga = codes "virga"
name_of_single single.VirgaReversa = codes "virga-reversa"
name_of_single single.VirgaReversaAscendens = codes "virga-reversa-ascendens"
name_of_single single.VirgaReversaDescendens = codes "virga-reversa-descendens"

abbrev pub name_of_symbol : Symbol → List ℕ
name_of_symbol symbol.CClef = codes "c-clef"
name_of_symbol symbol.FClef = codes "f-clef"
name_of_symbol symbol.Flat = codes "flat"
name_of_symbol symbol.Natural = codes "natural"
name_of_symbol symbol.Sharp = codes "sharp"
name_of_symbol symbol.CustosUp = codes "custos-up"
name_of_symbol symbol.CustosDown = codes "custos-down"
name_of_symbol symbol.Mora = codes "mora"
name_of_symbol symbol.TailUp = codes "tail-up"
name_of_symbol symbol.TailDown = codes "tail-down"
name_of_symbol symbol.Virgula = codes "virgula"
name_of_symbol symbol.Accent = codes "accent"
name_of_symbol symbol.Grave = codes "grave"
name_of_symbol symbol.Circle = codes "circle"
name_of_symbol symbol.LowerArc = codes "lower-arc"
name_of_symbol symbol.UpperArc = codes "upper-arc"
name_of_symbol symbol.Brace = codes "brace"
name_of_symbol symbol.BracketLeft = codes "bracket-left"
name_of_symbol symbol.BracketRight = codes "bracket-right"

-- as the texts that it is joined of: torculus-120-deminutus rises by a step, and falls by two
abbrev pub name_of_joined : Joined → List (List ℕ)
name_of_joined j =
    name_of_family j.family ∷ codes "-" ∷ decimal j.first ∷ decimal j.second ∷ decimal j.third
    ∷ cond j.is_debilis (codes "-debilis") [] ∷ name_of_ending j.ending ∷ []

abbrev pub name_of_head : Head → List (List ℕ)
name_of_head (head.Stroke steps) = codes "stroke-" ∷ decimal steps ∷ []
name_of_head (head.Joined j) = name_of_joined j
name_of_head (head.Single s) = name_of_single s ∷ []

abbrev pub name_of_hand : Hand → List ℕ
name_of_hand hand.StGall = codes "stgall-"
name_of_hand hand.Laon = codes "laon-"

-- an outline of NABC by its hand and its name there: stgall-clB is an augmented clivis
abbrev pub name_of_nabc : NabcOutline → List (List ℕ)
name_of_nabc o = name_of_hand o.hand ∷ o.name.now ∷ []
