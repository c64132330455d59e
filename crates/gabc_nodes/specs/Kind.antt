-- The numbers of the kinds of nodes.
use Rattle.std.specs.Prelude.{ℕ}
use Rattle.gabc_nodes.specs.declared.kind.Kind.{Kind}
use Rattle.gabc_nodes.specs.declared.kind.Kind.TheVariants as kind

abbrev pub number_of : Kind → ℕ
number_of kind.File = 0
number_of kind.Header = 1
number_of kind.HeaderName = 2
number_of kind.HeaderValue = 3
number_of kind.HeaderLeftOut = 4
number_of kind.HeaderComment = 5
number_of kind.ScoreLine = 6
number_of kind.Syllable = 7
number_of kind.Characters = 8
number_of kind.Escape = 9
number_of kind.TextBlank = 10
number_of kind.Raw = 11
number_of kind.Tag = 12
number_of kind.SpanMark = 13
number_of kind.StyleTag = 14
number_of kind.Brace = 15
number_of kind.Translation = 16
number_of kind.Snippet = 17
number_of kind.Glyph = 18
number_of kind.Note = 19
number_of kind.Alteration = 20
number_of kind.Clef = 21
number_of kind.Bar = 22
number_of kind.Spacing = 23
number_of kind.Custos = 24
number_of kind.LineBreak = 25
number_of kind.Attribute = 26
number_of kind.Fusion = 27
number_of kind.Descriptor = 28
number_of kind.NabcSpace = 29
number_of kind.NabcGlyph = 30
number_of kind.NabcPoints = 31
number_of kind.NabcLetters = 32
number_of kind.Comment = 33
number_of kind.LeftOut = 34
number_of kind.FurtherBlank = 35
number_of kind.Silent = 36
number_of kind.Unread = 37
