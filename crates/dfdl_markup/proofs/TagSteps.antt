-- What was written of a start tag, with a character or a few more.
use Rattle.std.proofs.Common.{◌≡◌, ℕ, ◌<◌, Bool, true, false, List, [], ◌∷◌, ◌++◌}
use Rattle.std.proofs.Common.{length, Option, Some, None, refl, ap, sym, subst, ◌∙◌, arith}
use Rattle.std.proofs.Common.{append_assoc}
use Rattle.std.proofs.lemmas.List.{append-nil, length_push}
use Rattle.std.specs.List.{flat_map}
use Rattle.dfdl_xml_chars.specs.Characters.{is_name_start}
use Rattle.dfdl_markup.specs.Grammar.{is_white, is_quote, Name, name_characters}
use Rattle.dfdl_markup.specs.Grammar.{given_characters, given_start, tag_characters}
use Rattle.dfdl_markup.specs.Machine.{Reading, First, name_next, whole_name, StartTag}
use Rattle.dfdl_markup.specs.Machine.{OpenValue, Place, AtTagName, AtTag, AtAttributeName, AtNamed}
use Rattle.dfdl_markup.specs.Machine.{AtEquals, AtValue, AtSlash, tag_of, value_begun, with_value}
use Rattle.dfdl_markup.specs.Machine.{fixed_value, may_close}
use Rattle.dfdl_markup.specs.Values.{declares}
use Rattle.dfdl_markup.proofs.Rest.{reading_characters, WroteName, ReadAs}
use Rattle.dfdl_markup.proofs.Rest.{Wrote}
use Rattle.dfdl_markup.proofs.NamesRead.{next_name, read_name}
use Rattle.dfdl_markup.proofs.TagValues.{each_push, value_quoted}

-- what was written up to the one place is, with this piece, written up to the other
abbrev pub Reaches : Place → Place → List ℕ → Type 0
Reaches p q piece = (n : ℕ) (want raw : List ℕ) → Wrote n want p raw → Wrote n want q (raw ++ piece)

pub reaches_on : (p q r : Place) (first second : List ℕ) → Reaches p q first → Reaches q r second
    → Reaches p r (first ++ second)
reaches_on p q r first second one two n want raw wrote =
    subst (Wrote n want r) (append_assoc raw first second)
    (two n want (raw ++ first) (one n want raw wrote))

-- in a tag's name

pub tag_name_reaches : (reading next : Reading) (c : ℕ) → name_next reading c ≡ Some next
    → Reaches (AtTagName reading) (AtTagName next) (c ∷ [])
tag_name_reaches reading next c goes n want raw wrote =
    let on = next_name reading c next goes in
    (ap (λ l. l ++ c ∷ []) wrote.0 ∙ ap (λ l. 60 ∷ l) (sym on.characters), on.is wrote.1)

pub tag_named : (reading : Reading) (name : Name) → whole_name reading ≡ Some name
    → (n : ℕ) (want raw : List ℕ) → Wrote n want (AtTagName reading) raw
    → Wrote n want (AtTag (tag_of name) false) raw
tag_named reading name ends n want raw wrote =
    let whole = read_name reading name ends in (
      record { name = name; attributes = []; space = [] },
      record { name = refl; attributes = refl; named = whole.is wrote.1; given = tt; space = tt },
      wrote.0 ∙ ap (λ l. 60 ∷ l) (sym whole.characters ∙ sym (append-nil (name_characters name))),
      λ spaced. absurd (cc),
    )

-- behind it

spaced_more : (space : List ℕ) (c : ℕ) → 0 < length (space ++ c ∷ [])
spaced_more space c = omega (arith, length_push space c)

pub tag_white : (tag : StartTag) (spaced : Bool) (c : ℕ) → is_white c ≡ true
    → Reaches (AtTag tag spaced) (AtTag tag true) (c ∷ [])
tag_white tag spaced c white n want raw (t, wrote, is, some) = (
  record { name = t.name; attributes = t.attributes; space = t.space ++ c ∷ [] },
  record {
    name = wrote.name;
    attributes = wrote.attributes;
    named = wrote.named;
    given = wrote.given;
    space = each_push (λ d. is_white d ≡ true) t.space c wrote.space white;
  },
  ap (λ l. l ++ c ∷ []) is
      ∙ ap (λ l. 60 ∷ l)
      (regrouped (name_characters t.name) (flat_map given_characters t.attributes) t.space
      (c ∷ [])),
  λ spaced_now. spaced_more t.space c,
)
  where
    regrouped : (a b s q : List ℕ) → (a ++ (b ++ s)) ++ q ≡ a ++ (b ++ (s ++ q))
    regrouped a b s q = append_assoc a (b ++ s) q ∙ ap (λ l. a ++ l) (append_assoc b s q)

pub tag_slash : (tag : StartTag) (spaced : Bool) → Reaches (AtTag tag spaced) (AtSlash tag)
    (47 ∷ [])
tag_slash tag spaced n want raw (t, wrote, is, some) = (t, wrote, ap (λ l. l ++ 47 ∷ []) is)

pub tag_attribute : (tag : StartTag) (c : ℕ) → is_name_start c ≡ true
    → Reaches (AtTag tag true) (AtAttributeName tag (First (c ∷ []))) (c ∷ [])
tag_attribute tag c begins n want raw (t, wrote, is, some) = (
  record { t = t; wrote = wrote; some_space = some refl; is = ap (λ l. l ++ c ∷ []) is },
  (begins, tt),
)

-- in an attribute's name, and behind it

wrote_more : (n : ℕ) (tag : StartTag) (front raw piece : List ℕ) → WroteName n tag front raw
    → WroteName n tag (front ++ piece) (raw ++ piece)
wrote_more n tag front raw piece wrote = record {
  t = wrote.t;
  wrote = wrote.wrote;
  some_space = wrote.some_space;
  is = ap (λ l. l ++ piece) wrote.is
      ∙ ap (λ l. 60 ∷ l) (append_assoc (tag_characters wrote.t) front piece);
}

pub wrote_as : (n : ℕ) (tag : StartTag) (front other raw piece : List ℕ) → front ++ piece ≡ other
    → WroteName n tag front raw → WroteName n tag other (raw ++ piece)
wrote_as n tag front other raw piece is wrote =
    subst (λ l. WroteName n tag l (raw ++ piece)) is (wrote_more n tag front raw piece wrote)

pub attribute_name_reaches : (tag : StartTag) (reading next : Reading) (c : ℕ)
    → name_next reading c ≡ Some next
    → Reaches (AtAttributeName tag reading) (AtAttributeName tag next) (c ∷ [])
attribute_name_reaches tag reading next c goes n want raw wrote =
    let on = next_name reading c next goes in (
      wrote_as n tag (reading_characters reading) (reading_characters next) raw (c ∷ [])
          (sym on.characters) wrote.0,
      on.is wrote.1,
    )

pub attribute_white : (tag : StartTag) (reading : Reading) (name : Name) (c : ℕ)
    → whole_name reading ≡ Some name → is_white c ≡ true
    → Reaches (AtAttributeName tag reading) (AtNamed tag name) (c ∷ [])
attribute_white tag reading name c ends white n want raw wrote =
    let whole = read_name reading name ends in (
      c ∷ [],
      (white, tt),
      whole.is wrote.1,
      wrote_as n tag (reading_characters reading) (name_characters name ++ c ∷ []) raw (c ∷ [])
          (ap (λ l. l ++ c ∷ []) (sym whole.characters)) wrote.0,
    )

pub attribute_equals : (tag : StartTag) (reading : Reading) (name : Name)
    → whole_name reading ≡ Some name
    → Reaches (AtAttributeName tag reading) (AtEquals tag name) (61 ∷ [])
attribute_equals tag reading name ends n want raw wrote =
    let whole = read_name reading name ends in (
      [],
      [],
      tt,
      tt,
      whole.is wrote.1,
      wrote_as n tag (reading_characters reading) (name_characters name ++ 61 ∷ []) raw (61 ∷ [])
          (ap (λ l. l ++ 61 ∷ []) (sym whole.characters)) wrote.0,
    )

pub named_white : (tag : StartTag) (name : Name) (c : ℕ) → is_white c ≡ true
    → Reaches (AtNamed tag name) (AtNamed tag name) (c ∷ [])
named_white tag name c white n want raw (before, white_before, named, wrote) = (
  before ++ c ∷ [],
  each_push (λ d. is_white d ≡ true) before c white_before white,
  named,
  wrote_as n tag (name_characters name ++ before) (name_characters name ++ (before ++ c ∷ [])) raw
      (c ∷ []) (append_assoc (name_characters name) before (c ∷ [])) wrote,
)

pub named_equals : (tag : StartTag) (name : Name) → Reaches (AtNamed tag name) (AtEquals tag name)
    (61 ∷ [])
named_equals tag name n want raw (before, white_before, named, wrote) = (
  before,
  [],
  white_before,
  tt,
  named,
  wrote_as n tag (name_characters name ++ before) (name_characters name ++ (before ++ 61 ∷ [])) raw
      (61 ∷ []) (append_assoc (name_characters name) before (61 ∷ [])) wrote,
)

-- behind the `=`

started : (name before after piece : List ℕ)
    → (name ++ (before ++ 61 ∷ after)) ++ piece ≡ name ++ (before ++ 61 ∷ (after ++ piece))
started name before after piece =
    append_assoc name (before ++ 61 ∷ after) piece
    ∙ ap (λ l. name ++ l) (append_assoc before (61 ∷ after) piece)

pub equals_white : (tag : StartTag) (name : Name) (c : ℕ) → is_white c ≡ true
    → Reaches (AtEquals tag name) (AtEquals tag name) (c ∷ [])
equals_white tag name c white n want raw (before, after, white_before, white_after, named, wrote) = (
  before,
  after ++ c ∷ [],
  white_before,
  each_push (λ d. is_white d ≡ true) after c white_after white,
  named,
  wrote_as n tag (name_characters name ++ (before ++ 61 ∷ after))
      (name_characters name ++ (before ++ 61 ∷ (after ++ c ∷ []))) raw (c ∷ [])
      (started (name_characters name) before after (c ∷ [])) wrote,
)

read_nothing : (tag : StartTag) (name : Name) (quote : ℕ) (o : Option (List ℕ))
    → ReadAs o (value_begun tag name quote) []
read_nothing tag name quote None = (refl, refl)
read_nothing tag name quote (Some fixed) = (refl, refl)

pub equals_quote : (tag : StartTag) (name : Name) (quote : ℕ) → is_quote quote ≡ true
    → Reaches (AtEquals tag name) (AtValue (value_begun tag name quote)) (quote ∷ [])
equals_quote tag name quote quotes n want raw
    (before, after, white_before, white_after, named, wrote) = record {
      before = before;
      after = after;
      items = [];
      named = named;
      quote = quotes;
      white_before = white_before;
      white_after = white_after;
      read = read_nothing tag name quote (fixed_value name);
      keep = tt;
      wrote = wrote_as n tag (name_characters name ++ (before ++ 61 ∷ after))
          (given_start name before after quote ++ []) raw (quote ∷ [])
          (started (name_characters name) before after (quote ∷ [])
          ∙ sym (append-nil (given_start name before after quote))) wrote;
    }

-- behind the closing quote
pub value_closed : (v : OpenValue) → may_close (declares v.name) (fixed_value v.name) v.text ≡ true
    → Reaches (AtValue v) (AtTag (with_value v) false) (v.quote ∷ [])
value_closed v may n want raw wrote =
    let quoted = value_quoted n v raw wrote may in
    (quoted.0, quoted.1, quoted.2, λ spaced. absurd (cc))
