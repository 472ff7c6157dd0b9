-- The entities by their names: what begins one goes on to it.
use Rattle.std.proofs.Common.{◌≡◌, ℕ, ◌≤◌, ◌&&◌, ◌||◌, ◌==◌, Bool, true, List, [], ◌∷◌, ◌++◌}
use Rattle.std.proofs.Common.{nat_le, refl, sym, ap, ap₂, subst, ◌∙◌, inl, inr, arith, codes}
use Rattle.std.proofs.Common.{IsSome}
use Rattle.std.specs.List.{list_any, list_all}
use Rattle.std.proofs.lemmas.Bool.{cases_Bool, and_parts, eqb-true, leb-true}
use Rattle.dfdl_layers.specs.Tellers.{Each}
use Rattle.dfdl_xml_chars.specs.Characters.{is_name_start, is_name_char, low_start_rows}
use Rattle.dfdl_xml_chars.specs.Characters.{low_name_rows}
use Rattle.dfdl_markup.specs.Values.{entities, entity}
use Rattle.dfdl_markup.specs.Rules.{IsPart}
use Rattle.dfdl_markup.specs.Machine.{begins, begins_entity}
use Rattle.dfdl_markup.proofs.Answers.{Good}
use Rattle.dfdl_markup.proofs.Closing.{good_low}

-- a text of ASCII characters that are no controls
abbrev pub is_plain : List ℕ → Bool
is_plain text = list_all (λ c. nat_le 32 c && nat_le c 127) text

pub plain_text : (text : List ℕ) → is_plain text ≡ true → Each Good text
plain_text [] is = tt
plain_text (c ∷ text) is =
    let both = and_parts (nat_le 32 c && nat_le c 127) (is_plain text) is in
    let ends = and_parts (nat_le 32 c) (nat_le c 127) both.0 in
    let least : 32 ≤ c = leb-true 32 c ends.0 in
    let most : c ≤ 127 = leb-true c 127 ends.1 in
    (good_low c least (omega arith), plain_text text both.1)

-- what begins a word goes on to it
pub begins_is : (text word : List ℕ) → begins text word ≡ true
    → (rest : List ℕ) × (text ++ rest ≡ word)
begins_is [] word is = (word, refl)
begins_is (c ∷ text) [] is = absurd (cc)
begins_is (c ∷ text) (d ∷ word) is =
    let both = and_parts (c == d) (begins text word) is in
    let more = begins_is text word both.1 in
    (more.0, ap₂ (λ (x : ℕ) (l : List ℕ). x ∷ l) (eqb-true c d both.0) more.1)

pub each_behind : (text rest : List ℕ) → Each Good (text ++ rest) → Each Good rest
each_behind [] rest each = each
each_behind (c ∷ text) rest each = each_behind text rest each.1

-- the name of an entity
pub record IsEntity (name : List ℕ) : Type 0 where
  pub part : IsPart name
  pub known : IsSome (entity name)
  pub plain : is_plain name ≡ true

pub all_entities : Each (λ e. IsEntity e.0) entities
unfolding entities is_name_start is_name_char low_start_rows low_name_rows
all_entities = (
  record { part = (refl, (refl, (refl, tt))); known = refl; plain = refl },
  (
    record { part = (refl, (refl, tt)); known = refl; plain = refl },
    (
      record { part = (refl, (refl, tt)); known = refl; plain = refl },
      (
        record { part = (refl, (refl, (refl, (refl, tt)))); known = refl; plain = refl },
        (record { part = (refl, (refl, (refl, (refl, tt)))); known = refl; plain = refl }, tt),
      ),
    ),
  ),
)

-- the rest of an entity's name
pub record Completes (name : List ℕ) : Type 0 where
  pub rest : List ℕ
  pub good : Each Good rest
  pub is : IsEntity (name ++ rest)

completes_in : (rows : List (List ℕ × ℕ)) (name : List ℕ) → Each (λ e. IsEntity e.0) rows
    → list_any (λ e. begins name e.0) rows ≡ true → Completes name
completes_in [] name are some = absurd (cc)
completes_in (row ∷ rows) name are some = elim (cases_Bool (begins name row.0)) [
  | inl this ↦ (
      let more = begins_is name row.0 this in
      record {
        rest = more.0;
        good =
            each_behind name more.0
            (subst (λ l. Each Good l) (sym more.1) (plain_text row.0 are.0.plain));
        is = subst IsEntity (sym more.1) are.0;
      })
  | inr other ↦
      completes_in rows name are.1
      (sym (ap (λ b. b || list_any (λ e. begins name e.0) rows) other) ∙ some)
]

pub completes : (name : List ℕ) → begins_entity name ≡ true → Completes name
completes name some = completes_in entities name all_entities some

-- there is an entity
pub less_than : IsEntity (codes "lt")
unfolding is_name_start is_name_char low_start_rows low_name_rows entities
less_than = record { part = (refl, (refl, tt)); known = refl; plain = refl }
