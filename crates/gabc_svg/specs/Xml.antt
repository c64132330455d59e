-- XML trees, as far as pictures need them, and their texts.
use Rattle.std.specs.Prelude.{ℕ, List, [], ◌∷◌, ◌++◌, codes}
use Rattle.std.specs.List.{flat_map}
use Rattle.gabc_svg.specs.Escape.{escaped}
use Rattle.gabc_svg.specs.declared.tag.Name.{Name}
use Rattle.gabc_svg.specs.declared.tag.Name.TheVariants as name
use Rattle.gabc_svg.specs.declared.tag.Tag.{Tag}
use Rattle.gabc_svg.specs.declared.tag.Tag.TheVariants as tag

abbrev pub text_of_tag : Tag → List ℕ
text_of_tag tag.Svg = codes "svg"
text_of_tag tag.Title = codes "title"
text_of_tag tag.Group = codes "g"
text_of_tag tag.Rect = codes "rect"
text_of_tag tag.Use = codes "use"
text_of_tag tag.Text = codes "text"
text_of_tag tag.Path = codes "path"

abbrev pub text_of_name : Name → List ℕ
text_of_name name.Xmlns = codes "xmlns"
text_of_name name.Space = codes "xml:space"
text_of_name name.ViewBox = codes "viewBox"
text_of_name name.Width = codes "width"
text_of_name name.Height = codes "height"
text_of_name name.Class = codes "class"
text_of_name name.FontSize = codes "font-size"
text_of_name name.Role = codes "role"
text_of_name name.Transform = codes "transform"
text_of_name name.X = codes "x"
text_of_name name.Y = codes "y"
text_of_name name.Href = codes "href"
text_of_name name.TextLength = codes "textLength"
text_of_name name.LengthAdjust = codes "lengthAdjust"
text_of_name name.FontWeight = codes "font-weight"
text_of_name name.FontStyle = codes "font-style"
text_of_name name.FontVariant = codes "font-variant"
text_of_name name.FontFamily = codes "font-family"
text_of_name name.TextDecoration = codes "text-decoration"
text_of_name name.Id = codes "id"
text_of_name name.Begin = codes "data-begin"
text_of_name name.End = codes "data-end"
text_of_name name.Course = codes "d"

-- an attribute: its value is that of these texts, one after the other
pub record Attribute : Type 0 where
  pub name : Name
  pub value : List (List ℕ)

-- the content between two tags: none; characters, and the content after them; an element with its
-- name, its attributes and its own content, and the content after it; an element without content,
-- in its short form
pub data Content : Type 0 where
  Nothing : Content
  Characters : List ℕ → Content → Content
  Element : Tag → List Attribute → Content → Content → Content
  Empty : Tag → List Attribute → Content → Content

-- one content, and after it another
abbrev pub and_then : Content → Content → Content
and_then Nothing later = later
and_then (Characters text rest) later = Characters text (and_then rest later)
and_then (Element t attributes inner rest) later = Element t attributes inner (and_then rest later)
and_then (Empty t attributes rest) later = Empty t attributes (and_then rest later)

unfoldable pub written_attribute : Attribute → List ℕ
written_attribute a = codes " " ++ (text_of_name a.name ++ (codes "=\"" ++ (flat_map escaped a.value ++ codes "\"")))

abbrev pub written_attributes : List Attribute → List ℕ
written_attributes attributes = flat_map written_attribute attributes

-- a tag that opens an element, without its end
unfoldable pub opened : Tag → List Attribute → List ℕ
opened t attributes = codes "<" ++ (text_of_tag t ++ written_attributes attributes)

unfoldable pub closed : Tag → List ℕ
closed t = codes "</" ++ (text_of_tag t ++ codes ">")

-- the text of a content
unfoldable pub written : Content → List ℕ
written Nothing = []
written (Characters text rest) = escaped text ++ written rest
written (Element t attributes inner rest) = opened t attributes ++ (codes ">" ++ (written inner ++ (closed t ++ written rest)))
written (Empty t attributes rest) = opened t attributes ++ (codes "/>" ++ written rest)

-- an attribute with one text as its value
abbrev pub valued : Name → List ℕ → Attribute
valued n value = record { name = n; value = value ∷ [] }
