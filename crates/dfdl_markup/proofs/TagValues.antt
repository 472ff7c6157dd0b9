-- The value of an attribute as it is written, with more of it, and with its closing quote.
use Rattle.std.proofs.Common.{◌≡◌, ℕ, ◌==◌, ◌||◌, Bool, true, false, List, [], ◌∷◌, ◌++◌}
use Rattle.std.proofs.Common.{map, Option, Some, None, refl, ap, sym, subst, ◌∙◌}
use Rattle.std.proofs.Common.{append_assoc, if◌then◌else◌, option_and_then}
use Rattle.std.proofs.lemmas.Bool.{or_parts}
use Rattle.std.proofs.lemmas.List.{append-nil, map-append}
use Rattle.std.proofs.lemmas.List.Concat.{flat_map-append}
use Rattle.std.specs.List.{flat_map}
use Rattle.dfdl_layers.specs.Tellers.{Each}
use Rattle.dfdl_layers.proofs.Runs.{each-append}
use Rattle.dfdl_markup.specs.Grammar.{is_white, Name, name_characters, Item, Letter, Referred}
use Rattle.dfdl_markup.specs.Grammar.{item_characters, Given, given_characters, given_start, Tag}
use Rattle.dfdl_markup.specs.Grammar.{tag_characters}
use Rattle.dfdl_markup.specs.Values.{letter_read, items_read, value_of, ends_in_cr}
use Rattle.dfdl_markup.specs.Values.{attribute_of, declares, fixed_namespace, may_bind}
use Rattle.dfdl_markup.specs.Rules.{ItemKeeps, MayDeclare, BindsWell, GivenKeeps}
use Rattle.dfdl_markup.specs.Machine.{StartTag, OpenValue, with_text, with_value}
use Rattle.dfdl_markup.specs.Machine.{fixed_value, may_close}
use Rattle.dfdl_markup.proofs.Rest.{WroteTag, ReadAs, WroteValue}
use Rattle.dfdl_markup.proofs.TagNamespaces.{alike}
use Rattle.dfdl_markup.proofs.TagFixed.{ArePlain, plain_fixed, plain_not_white}

pub each_push : {A : Type 0} (P : A → Type 0) (items : List A) (item : A) → Each P items → P item
    → Each P (items ++ item ∷ [])
each_push P items item each last = each-append P items (item ∷ []) each (last, tt)

-- what items are read as, with more of them

pub read_on : (behind : Bool) (items more : List Item)
    → items_read behind (items ++ more)
    ≡ items_read behind items ++ items_read (ends_in_cr behind items) more
read_on behind [] more = refl
read_on behind (Letter c ∷ items) more =
    ap (λ l. letter_read behind c ++ l) (read_on (c == 13) items more)
    ∙ sym (append_assoc (letter_read behind c) (items_read (c == 13) items)
    (items_read (ends_in_cr (c == 13) items) more))
read_on behind (Referred reference ∷ items) more =
    ap (λ l. items_read behind (Referred reference ∷ []) ++ l) (read_on false items more)

pub ends_on : (behind : Bool) (items more : List Item)
    → ends_in_cr behind (items ++ more) ≡ ends_in_cr (ends_in_cr behind items) more
ends_on behind [] more = refl
ends_on behind (Letter c ∷ items) more = ends_on (c == 13) items more
ends_on behind (Referred reference ∷ items) more = ends_on false items more

-- letters that are no white space are read as they are

plain_read : (behind : Bool) (c : ℕ) → is_white c ≡ false → letter_read behind c ≡ c ∷ []
unfolding is_white
plain_read true c plain =
    let parts = or_parts (c == 32 || c == 9 || c == 10) (c == 13) plain in
    let feed = or_parts (c == 32 || c == 9) (c == 10) parts.0 in
    ap (λ (b : Bool). if b then [] else (if is_white c then 32 ∷ [] else c ∷ [])) feed.1
    ∙ ap (λ (b : Bool). if b then 32 ∷ [] else c ∷ []) plain
plain_read false c plain = ap (λ (b : Bool). if b then 32 ∷ [] else c ∷ []) plain

pub letters_read : (behind : Bool) (text : List ℕ) → Each (λ c. is_white c ≡ false) text
    → items_read behind (map Letter text) ≡ text
letters_read behind [] plain = refl
letters_read behind (c ∷ text) plain =
    ap (λ l. l ++ items_read (c == 13) (map Letter text)) (plain_read behind c plain.0)
    ∙ ap (λ l. c ∷ l) (letters_read (c == 13) text plain.1)

pub letters_written : (text : List ℕ) → flat_map item_characters (map Letter text) ≡ text
letters_written [] = refl
letters_written (c ∷ text) = ap (λ l. c ∷ l) (letters_written text)

pub not_white : (text : List ℕ) → ArePlain text → Each (λ c. is_white c ≡ false) text
not_white [] plain = tt
not_white (c ∷ text) plain = (plain_not_white c plain.0, not_white text plain.1)

-- a value with more items
pub value_grows : (n : ℕ) (v : OpenValue) (raw : List ℕ) (w : WroteValue n v raw)
    (items : List Item)
    (more : List ℕ) (behind_cr : Bool) → Each (ItemKeeps n v.quote) items
    → ReadAs (fixed_value v.name) (with_text v more behind_cr) (w.items ++ items)
    → WroteValue n (with_text v more behind_cr) (raw ++ flat_map item_characters items)
value_grows n v raw w items more behind_cr keep read = record {
  before = w.before;
  after = w.after;
  items = w.items ++ items;
  named = w.named;
  quote = w.quote;
  white_before = w.white_before;
  white_after = w.white_after;
  read = read;
  keep = each-append (ItemKeeps n v.quote) w.items items w.keep keep;
  wrote = record {
    t = w.wrote.t;
    wrote = w.wrote.wrote;
    some_space = w.wrote.some_space;
    is = ap (λ l. l ++ flat_map item_characters items) w.wrote.is
        ∙ ap (λ l. 60 ∷ l)
        (regrouped (tag_characters w.wrote.t)
        (given_start v.name w.before w.after v.quote) (flat_map item_characters w.items)
        (flat_map item_characters items)
        ∙ ap (λ l. tag_characters w.wrote.t
        ++ (given_start v.name w.before w.after v.quote ++ l))
        (sym (flat_map-append item_characters w.items items)));
  };
}
  where
    regrouped : (a b c d : List ℕ) → (a ++ (b ++ c)) ++ d ≡ a ++ (b ++ (c ++ d))
    regrouped a b c d = append_assoc a (b ++ c) d ∙ ap (λ l. a ++ l) (append_assoc b c d)

-- what is declared by a value that may end there may be declared
closing_binds : (o fixed : Option (List ℕ)) → option_and_then fixed_namespace o ≡ fixed
    → (v : OpenValue) (items : List Item) → ReadAs fixed v items → may_close o fixed v.text ≡ true
    → BindsWell o items
closing_binds None fixed is v items read may = tt
closing_binds (Some prefix) (Some fixed) is v items read may =
    subst (λ o. MayDeclare prefix o items) (sym is)
    (read.0 ∙ ap (map Letter) (alike v.text fixed may))
closing_binds (Some prefix) None is v items read may =
    subst (λ o. MayDeclare prefix o items) (sym is)
    (ap (λ l. may_bind prefix l) read.0 ∙ may)

-- and is read as its text
closing_reads : (o fixed : Option (List ℕ)) → option_and_then fixed_namespace o ≡ fixed
    → (v : OpenValue) (items : List Item) → ReadAs fixed v items → may_close o fixed v.text ≡ true
    → value_of items ≡ v.text
closing_reads None None is v items read may = read.0
closing_reads None (Some fixed) is v items read may = absurd (cc)
closing_reads (Some prefix) (Some fixed) is v items read may =
    ap value_of read.0
    ∙ letters_read false v.text (not_white v.text
    (subst ArePlain (sym (alike v.text fixed may)) (plain_fixed prefix fixed is)))
closing_reads (Some prefix) None is v items read may = read.0

-- the start tag with one attribute more
abbrev pub with_attribute : StartTag → Name → List ℕ → StartTag
with_attribute tag name value =
    record {
      name = tag.name;
      attributes = tag.attributes ++ record { name = name; value = value } ∷
          [];
    }

-- a value is an attribute behind its closing quote
pub value_quoted : (n : ℕ) (v : OpenValue) (raw : List ℕ) → WroteValue n v raw
    → may_close (declares v.name) (fixed_value v.name) v.text ≡ true
    → (t : Tag) × WroteTag n (with_value v) t × (raw ++ v.quote ∷ [] ≡ 60 ∷ tag_characters t)
value_quoted n v raw w may = (
  record { name = t.name; attributes = t.attributes ++ given ∷ []; space = [] },
  record {
    name = w.wrote.wrote.name;
    attributes = map-append attribute_of t.attributes (given ∷ [])
        ∙ ap (λ l. l ++ attribute_of given ∷ []) w.wrote.wrote.attributes
        ∙ ap (λ value. v.tag.attributes ++ record { name = v.name; value = value } ∷ []) reads;
    named = w.wrote.wrote.named;
    given = each_push (GivenKeeps n) t.attributes given w.wrote.wrote.given given_keeps;
    space = tt;
  },
  ap (λ l. l ++ v.quote ∷ []) w.wrote.is
      ∙ ap (λ l. 60 ∷ l)
      (regrouped (name_characters t.name) (flat_map given_characters t.attributes) t.space
      (given_start v.name w.before w.after v.quote) (flat_map item_characters w.items)
      (v.quote ∷ [])
      ∙ ap (λ l. name_characters t.name ++ (l ++ []))
      (sym (flat_map-append given_characters t.attributes (given ∷ [])))),
)
  where
    t : Tag
    t = w.wrote.t

    given : Given
    given = record {
      space = t.space;
      name = v.name;
      before = w.before;
      after = w.after;
      quote = v.quote;
      value = w.items;
    }

    reads : value_of w.items ≡ v.text
    reads = closing_reads (declares v.name) (fixed_value v.name) refl v w.items w.read may

    given_keeps : GivenKeeps n given
    given_keeps = record {
      some_space = w.wrote.some_space;
      space = w.wrote.wrote.space;
      name = w.named;
      before = w.white_before;
      after = w.white_after;
      quote = w.quote;
      value = w.keep;
      binds = closing_binds (declares v.name) (fixed_value v.name) refl v w.items w.read may;
    }

    regrouped : (a b s g i q : List ℕ) → ((a ++ (b ++ s)) ++ (g ++ i)) ++ q ≡ a ++
        ((b ++ ((s ++ (g ++ (i ++ q))) ++ [])) ++ [])
    regrouped a b s g i q = simp (append_assoc, append-nil)
