-- The bytes of the values of a document's elements are there, and those of its strings are UTF-8.
use Rattle.std.proofs.Common.{◌≡◌, ℕ, zero, suc, ◌+◌, ◌≤◌, refl, List, [], ◌∷◌, ◌++◌, length, take, drop, Bool, true, false, cond, All, Option, ap, sym, subst, ◌∙◌, arith, IsUtf8, encode_utf8, length-append}
use Rattle.std.proofs.Math.Seq.{drop-append_seam, take-length}
use Rattle.std.proofs.lemmas.List.{take-append-le, drop-append-le, length-drop}
use Rattle.std.proofs.lemmas.Str.{IsUtf8-append, IsUtf8-encode, IsUtf8-nil}
use Rattle.std.specs.Char.{IsScalar}
use Rattle.dfdl_forms.specs.declared.text.Justify.{Justify}
use Rattle.dfdl_forms.specs.declared.text.Justify.TheVariants.{Left, Right, Center}
use Rattle.dfdl_forms.specs.declared.text.PadForm.{PadForm}
use Rattle.dfdl_lemmas.specs.Trimmed.{before_rest, without_leading, without_trailing}
use Rattle.dfdl_text_string.specs.Padding.{bare, end_trimmed, front_trimmed, is_trim, keeps_one, trimmed}
use Rattle.dfdl_region.specs.declared.node.Node.{Node}
use Rattle.dfdl_region.specs.declared.node.Content.{Content}
use Rattle.dfdl_region.specs.declared.node.Content.TheVariants.{Begun, Complex, Nil, Signed, Unsigned, Decimal, Truth, Text, Octets}
use Rattle.dfdl_region.specs.Bytes.{bytes_at, utf8_of}
use Rattle.dfdl_region.specs.declared.node.Lengths.{Lengths}
use Rattle.dfdl_region.specs.Nodes.{with_content, with_lengths}
use Rattle.dfdl_region.specs.Texts.{HasText}

-- the rest of a list, and its first element
pub rest_has : {A : Type 0} (P : A → Type 0) (x : A) (xs : List A) → All P (x ∷ xs) → All P xs
rest_has P x xs all = λ i d less. all (suc i) d (omega arith)

pub first_has : {A : Type 0} (P : A → Type 0) (x : A) (xs : List A) → All P (x ∷ xs) → P x
first_has P x xs all = all zero x (omega arith)

pub both_have : {A : Type 0} (P : A → Type 0) (x : A) (xs : List A) → P x → All P xs → All P (x ∷ xs)
both_have P x xs first rest zero d less = first
both_have P x xs first rest (suc i) d less = rest i d (omega arith)

-- characters as UTF-8
pub utf8 : (cs : List ℕ) → All IsScalar cs → IsUtf8 (utf8_of cs)
utf8 [] all = IsUtf8-nil
utf8 (c ∷ cs) all = IsUtf8-append (encode_utf8 c) (utf8_of cs) (IsUtf8-encode c (first_has IsScalar c cs all)) (utf8 cs (rest_has IsScalar c cs all))

-- what is left of characters after trimming
module _ (passes : ℕ → Bool) where
  leading_at : (x : ℕ) (xs : List ℕ) (test : Bool) → All IsScalar (without_leading passes xs) → All IsScalar (x ∷ xs)
      → All IsScalar (cond test (without_leading passes xs) (x ∷ xs))
  leading_at x xs true rest all = rest
  leading_at x xs false rest all = all

  leading : (xs : List ℕ) → All IsScalar xs → All IsScalar (without_leading passes xs)
  leading [] all = all
  leading (x ∷ xs) all = leading_at x xs (passes x) (leading xs (rest_has IsScalar x xs all)) all

  trailing_at : (x : ℕ) (test : Bool) → IsScalar x → All IsScalar (cond test [] (x ∷ []))
  trailing_at x true is = λ i d less. absurd (omega arith)
  trailing_at x false is = both_have IsScalar x [] is (λ i d less. absurd (omega arith))

  trailing_before : (x : ℕ) (rest : List ℕ) → IsScalar x → All IsScalar rest → All IsScalar (before_rest passes x rest)
  trailing_before x [] is all = trailing_at x (passes x) is
  trailing_before x (y ∷ ys) is all = both_have IsScalar x (y ∷ ys) is all

  trailing : (xs : List ℕ) → All IsScalar xs → All IsScalar (without_trailing passes xs)
  trailing [] all = all
  trailing (x ∷ xs) all =
      trailing_before x (without_trailing passes xs) (first_has IsScalar x xs all) (trailing xs (rest_has IsScalar x xs all))

  front_kept : (justify : Justify) (xs : List ℕ) → All IsScalar xs → All IsScalar (front_trimmed justify passes xs)
  front_kept Left xs all = all
  front_kept Right xs all = leading xs all
  front_kept Center xs all = leading xs all

  end_kept : (justify : Justify) (xs : List ℕ) → All IsScalar xs → All IsScalar (end_trimmed justify passes xs)
  end_kept Left xs all = trailing xs all
  end_kept Right xs all = all
  end_kept Center xs all = trailing xs all

zero_scalar : All IsScalar (48 ∷ [])
zero_scalar = both_have IsScalar 48 [] refl (λ i d less. absurd (omega arith))

kept_at : (form : PadForm) (xs : List ℕ) (test : Bool) → All IsScalar (bare form xs) → All IsScalar (cond test (48 ∷ []) (bare form xs))
kept_at form xs true all = zero_scalar
kept_at form xs false all = all

pub trimmed-scalars : (form : PadForm) (xs : List ℕ) → All IsScalar xs → All IsScalar (trimmed form xs)
trimmed-scalars form xs all =
    let passes : ℕ → Bool = is_trim form.trim in
    kept_at form xs (keeps_one form xs) (end_kept passes form.justify (front_trimmed form.justify passes xs) (front_kept passes form.justify xs all))

-- more bytes behind the others
bytes-more : (bytes more : List ℕ) (from len : ℕ) → from + len ≤ length bytes → bytes_at (bytes ++ more) from len ≡ bytes_at bytes from len
bytes-more bytes more from len within =
    let size = length-drop from bytes in
    ap (λ (xs : List ℕ). take len xs) (drop-append-le from bytes more (omega arith)) ∙ take-append-le len (drop from bytes) more (omega (arith, size))

-- they leave those of a content as they are
pub text-more : (bytes more : List ℕ) (content : Content) → HasText bytes content → HasText (bytes ++ more) content
text-more bytes more Begun has = tt
text-more bytes more Complex has = tt
text-more bytes more Nil has = tt
text-more bytes more (Signed number) has = tt
text-more bytes more (Unsigned number) has = tt
text-more bytes more (Decimal number) has = tt
text-more bytes more (Truth truth) has = tt
text-more bytes more (Text from len) has =
    let size = length-append bytes more in
    let within = has.0 in
    (omega (arith, size, within), subst IsUtf8 (sym (bytes-more bytes more from len has.0)) has.1)
text-more bytes more (Octets from len) has = let size = length-append bytes more in omega (arith, size, has)

-- those of the last value
pub last-bytes : (bytes more : List ℕ) → bytes_at (bytes ++ more) (length bytes) (length more) ≡ more
last-bytes bytes more = ap (λ (xs : List ℕ). take (length more) xs) (drop-append_seam bytes more) ∙ take-length more

-- a node of the nodes of which one has another content
pub content-has : (P : Content → Type 0) (nodes : List Node) (number : ℕ) (content : Content) → P content → All (λ (n : Node). P n.content) nodes
    → All (λ (n : Node). P n.content) (with_content nodes number content)
content-has P [] number content is all = all
content-has P (node ∷ nodes) zero content is all =
    both_have (λ (n : Node). P n.content) (record node { content = content }) nodes is (rest_has (λ (n : Node). P n.content) node nodes all)
content-has P (node ∷ nodes) (suc number) content is all =
    both_have (λ (n : Node). P n.content) node (with_content nodes number content) (first_has (λ (n : Node). P n.content) node nodes all)
    (content-has P nodes number content is (rest_has (λ (n : Node). P n.content) node nodes all))

-- so it is where one has other lengths
pub lengths-has : (P : Content → Type 0) (nodes : List Node) (number : ℕ) (lengths : Option Lengths) → All (λ (n : Node). P n.content) nodes
    → All (λ (n : Node). P n.content) (with_lengths nodes number lengths)
lengths-has P [] number lengths all = all
lengths-has P (node ∷ nodes) zero lengths all =
    both_have (λ (n : Node). P n.content) (record node { lengths = lengths }) nodes (first_has (λ (n : Node). P n.content) node nodes all)
    (rest_has (λ (n : Node). P n.content) node nodes all)
lengths-has P (node ∷ nodes) (suc number) lengths all =
    both_have (λ (n : Node). P n.content) node (with_lengths nodes number lengths) (first_has (λ (n : Node). P n.content) node nodes all)
    (lengths-has P nodes number lengths (rest_has (λ (n : Node). P n.content) node nodes all))
