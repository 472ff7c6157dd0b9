-- Which bytes of a document's text the values of its elements have. 'The DFDL Information Set'.
use Rattle.std.specs.Prelude.{ℕ, ◌+◌, ◌≤◌, List, length, All, IsUtf8}
use Rattle.dfdl_region.specs.declared.node.Node.{Node}
use Rattle.dfdl_region.specs.declared.node.Content.{Content}
use Rattle.dfdl_region.specs.declared.node.Content.TheVariants.{Begun, Complex, Nil, Signed, Unsigned, Decimal, Truth, Text, Octets}
use Rattle.dfdl_region.specs.Bytes.{bytes_at}

-- the bytes of a content's value are there, and those of a string are UTF-8
abbrev pub HasText : List ℕ → Content → Type 0
HasText bytes Begun = Unit {0}
HasText bytes Complex = Unit {0}
HasText bytes Nil = Unit {0}
HasText bytes (Signed number) = Unit {0}
HasText bytes (Unsigned number) = Unit {0}
HasText bytes (Decimal number) = Unit {0}
HasText bytes (Truth truth) = Unit {0}
HasText bytes (Text from len) = (from + len ≤ length bytes) × IsUtf8 (bytes_at bytes from len)
HasText bytes (Octets from len) = from + len ≤ length bytes

-- those of each node's value are
abbrev pub HaveTexts : List Node → List ℕ → Type 0
HaveTexts nodes bytes = All (λ node. HasText bytes node.content) nodes
