-- The characters of a text that are put one after the other, with their bytes.
use Rattle.std.proofs.Common.{◌≡◌, ℕ, ◌+◌, ◌-◌, ◌<◌, ◌≤◌, Bool, List, [], ◌∷◌, ◌++◌, length, drop, get_or, Option, Some, None, refl, ap, sym, ◌∙◌, arith, append_assoc, length-append}
use Rattle.std.proofs.lemmas.List.{drop_at, drop-drop, drop_more, length-drop}
use Rattle.dfdl_forms.specs.declared.encoding.Encoding.{Encoding}
use Rattle.dfdl_chars.specs.Encodings.{count_of, encoded_of, encoded_text, joined, width_in}
use Rattle.dfdl_delims.specs.Lists.{Opened}
use Rattle.dfdl_escapes.specs.declared.placed.Placed.{Placed}
use Rattle.dfdl_escapes.specs.Written.{begins_with_text, is_matched, placed}

-- both lists of a joined one
record Parts (a b : Option (List ℕ)) (all : List ℕ) : Type 0 where
  pub first : List ℕ
  pub second : List ℕ
  pub is_first : a ≡ Some first
  pub is_second : b ≡ Some second
  pub both : all ≡ first ++ second

parts : (a b : Option (List ℕ)) (all : List ℕ) → joined a b ≡ Some all → Parts a b all
parts None b all is = absurd (cc)
parts (Some xs) None all is = absurd (cc)
parts (Some xs) (Some ys) all is = record { first = xs; second = ys; is_first = refl; is_second = refl; both = cc }

left_there : (text : List ℕ) (i c d : ℕ) → i < length text → c ≡ get_or text i d → drop i text ≡ c ∷ drop (i + 1) text
left_there text i c d within is = drop_more text i d within ∙ ap (λ (x : ℕ). x ∷ drop (i + 1) text) (sym is)

module _ (enc : Encoding) (text bytes : List ℕ) (i c d from : ℕ) (within : i < length text) (is_c : c ≡ get_or text i d)
    (encoded : encoded_text enc (drop i text) ≡ Some (drop from bytes)) where
  whole : encoded_text enc (c ∷ drop (i + 1) text) ≡ Some (drop from bytes)
  whole = ap (encoded_text enc) (sym (left_there text i c d within is_c)) ∙ encoded

  pub place-kept : (opened : List Opened) (is : Bool) (old now new : List Placed) → is ≡ begins_with_text opened [] (drop from bytes)
      → new ≡ now ++ record { c = c; is_markup = is } ∷ [] → now ++ placed enc opened (drop i text) ≡ old ++ placed enc opened text
      → new ++ placed enc opened (drop (i + 1) text) ≡ old ++ placed enc opened text
  place-kept opened is old now new tells new_is before =
      ap (λ (xs : List Placed). xs ++ placed enc opened (drop (i + 1) text)) new_is
      ∙ append_assoc now (record { c = c; is_markup = is } ∷ []) (placed enc opened (drop (i + 1) text))
      ∙ ap (λ (b : Bool). now ++ record { c = c; is_markup = b } ∷ placed enc opened (drop (i + 1) text))
      (tells ∙ ap (is_matched opened) (sym whole))
      ∙ ap (λ (cs : List ℕ). now ++ placed enc opened cs) (sym (left_there text i c d within is_c))
      ∙ before

  pub bytes-kept : (size : ℕ) → size ≡ width_in enc c → from ≤ length bytes
      → (encoded_text enc (drop (i + 1) text) ≡ Some (drop (from + size) bytes)) × (from + size ≤ length bytes)
  bytes-kept size sizes inside =
      let both = parts (encoded_of enc c) (encoded_text enc (drop (i + 1) text)) (drop from bytes) whole in
      let size_is : size ≡ length both.first = sizes ∙ ap count_of both.is_first in
      let behind : drop (from + size) bytes ≡ both.second =
      sym (drop-drop size from bytes) ∙ ap (drop size) both.both ∙ drop_at both.first both.second size (sym size_is) in
      let count : length bytes - from ≡ length both.first + length both.second =
      sym (length-drop from bytes) ∙ ap length both.both ∙ length-append both.first both.second in
      (both.is_second ∙ ap Some (sym behind), omega arith)
