use Rattle.std.proofs.Common.{◌≡◌, ℕ, List, [], ◌∷◌, refl, arith}
use Rattle.std.proofs.lemmas.List.Elements.{All-cons, All-nil}
use Rattle.dfdl_region.specs.declared.node.Node.{Node}
use Rattle.dfdl_region.specs.declared.node.Content.{Content}
use Rattle.dfdl_region.specs.declared.node.Content.TheVariants.{Complex, Text, Octets}
use Rattle.dfdl_region.specs.Texts.{HasText, HaveTexts}
use Rattle.dfdl_json.proofs.tests.strings_of_a_line_are_escaped_and_hex_binary_is_in_upper_case.Goals as goal

abbrev bytes : List ℕ
bytes = 202 ∷ 254 ∷ 34 ∷ 195 ∷ 169 ∷ 9 ∷ []

-- what is said of a content is said of an equal one
has_text : (held content : Content) → held ≡ content → HasText bytes content → HasText bytes held
has_text held content is has = rw is has

four_have : (a b c d : Node) → a.content ≡ Complex → b.content ≡ Complex → c.content ≡ Octets 0 2 → d.content ≡ Text 2 4
    → HaveTexts (a ∷ b ∷ c ∷ d ∷ []) bytes
unfolding lib.Utf8.encode
four_have a b c d a_is b_is c_is d_is =
    let P : Node → Type 0 = λ node. HasText bytes node.content in
    All-cons P a (b ∷ c ∷ d ∷ []) (has_text a.content Complex a_is tt)
    (All-cons P b (c ∷ d ∷ []) (has_text b.content Complex b_is tt)
    (All-cons P c (d ∷ []) (has_text c.content (Octets 0 2) c_is (omega arith))
    (All-cons P d [] (has_text d.content (Text 2 4) d_is (omega arith, (34 ∷ 233 ∷ 9 ∷ [], (refl, refl)))) (All-nil P))))

pub line_of-requires : goal.line_of-requires
line_of-requires g c = record {
  texts = four_have c.node.result c.node-2.result c.node-3.result c.node-4.result c.node.ensures c.node-2.ensures c.node-3.ensures c.node-4.ensures;
}
