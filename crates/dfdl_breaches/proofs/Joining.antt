-- What formats give, by their numbers and by the documents.
use Rattle.std.proofs.Common.{◌≡◌, refl, sym, ap, subst, ◌∙◌, ℕ, zero, suc, ◌<◌, List, [], ◌∷◌, length, get_or, map, Result, Ok, Err, IfOk, Option, Some, None, option_map, option_to_list, true, if◌then◌else◌, arith}
use Rattle.std.specs.Option.{option_or}
use Rattle.std.proofs.lemmas.List.{get_or-map, length-map}
use Rattle.dfdl_documents.specs.Documents.{SchemaDocument}
use Rattle.dfdl_order.specs.Folds.{over}
use Rattle.dfdl_order.specs.Parts.{uses_of}
use Rattle.dfdl_components.specs.declared.site.Site.{Site}
use Rattle.dfdl_components.specs.Recursion.{count_of, number_of}
use Rattle.dfdl_components.specs.Sites.{IsSite, nodes_of, role_of}
use Rattle.dfdl_properties.specs.Formats as formats
use Rattle.dfdl_properties.specs.Own.{format_given_at}
use Rattle.dfdl_properties.specs.Shown.{value_by_format}
use Rattle.dfdl_scope.specs.Scoping.{nothing}
use Rattle.dfdl_scope.specs.Shown.{given}
use Rattle.dfdl_scope.specs.declared.properties.Properties.{Properties}
use Rattle.dfdl_scope.specs.declared.format.Format.{Format}
use Rattle.dfdl_chains.specs.Everywhere.{all_sites, for_each}
use Rattle.dfdl_references.proofs.Found.{after-found}
use Rattle.dfdl_breaches.proofs.Numbering.{at-number, length-sites, number-below, value-at}
use Rattle.dfdl_breaches.specs.Formats.{given_by, format_value, format_within}
use Rattle.dfdl_references.specs.References.{format_after, is_format}
use Rattle.dfdl_breaches.specs.Tabled.{AreJoined, AreTabled, IsFormatOwn, format_own, number_after}

module _ (documents : List SchemaDocument) (own : List Properties) (tabled : AreTabled (IsFormatOwn documents) (all_sites documents) (count_of documents) own) where
  -- what a format gives by itself, in the table
  own-at : (format : Site) (name : List ℕ) → IsSite documents format → is_format (role_of documents format) ≡ true
      → formats.own_of (map given own) (number_of documents format) name ≡ format_given_at (nodes_of documents format.document) format.element name
  own-at format name is role =
      let low : number_of documents format < length own = subst (λ (n : ℕ). number_of documents format < n) (sym tabled.count) (number-below documents format is) in
      at own (number_of documents format) low
      (λ other. subst (λ (s : Site). given (get_or own (number_of documents format) other) name ≡ format_own documents s name) (at-number documents format format is)
      (tabled.each (number_of documents format) format other (number-below documents format is) name))
      ∙ ap (λ b. (if b then format_given_at (nodes_of documents format.document) format.element else nothing) name) role
    where
      at : (xs : List Properties) (n : ℕ) → n < length xs → ((other : Properties) → given (get_or xs n other) name ≡ format_own documents format name)
          → get_or (map given xs) n nothing name ≡ format_own documents format name
      at [] n low all = absurd (omega (arith, low))
      at (x ∷ xs) zero low all = all x
      at (x ∷ xs) (suc n) low all = at xs n (omega (arith, low)) all

  -- the numbers of the formats that a format refers to
  after-at : (format : Site) → IsSite documents format → is_format (role_of documents format) ≡ true
      → uses_of (formats.parts_of (for_each documents (number_after documents))) (number_of documents format)
      ≡ option_to_list (option_map (number_of documents) (format_after documents format))
  unfolding number_after
  after-at format is role =
      get_or-map option_to_list (for_each documents (number_after documents)) (number_of documents format) None [] low
      ∙ ap option_to_list (value-at documents (number_after documents) format None is
      ∙ ap (λ b. if b then option_map (number_of documents) (format_after documents format) else None) role)
    where
      low : number_of documents format < length (for_each documents (number_after documents))
      low =
          subst (λ (n : ℕ). number_of documents format < n) (sym (length-map (all_sites documents) (number_after documents) ∙ length-sites documents))
          (number-below documents format is)

  -- what a format gives, through at most so many others
  within-same : (n : ℕ) (format : Site) (name : List ℕ) → IsSite documents format → is_format (role_of documents format) ≡ true
      → over (uses_of (formats.parts_of (for_each documents (number_after documents)))) (formats.joined_step (map given own) name) None n (number_of documents format)
      ≡ format_within n documents format name
  unfolding over format_within
  within-same zero format name is role = refl
  within-same (suc n) format name is role =
      ap (λ (ps : List ℕ). formats.joined_step (map given own) name (number_of documents format)
      (map (over (uses_of (formats.parts_of (for_each documents (number_after documents)))) (formats.joined_step (map given own) name) None n) ps))
      (after-at format is role)
      ∙ (ap (λ o. option_or o (formats.nearest (map (over (uses_of (formats.parts_of (for_each documents (number_after documents)))) (formats.joined_step (map given own) name) None n)
      (option_to_list (option_map (number_of documents) (format_after documents format))))))
      (own-at format name is role)
      ∙ ap (option_or (format_given_at (nodes_of documents format.document) format.element name))
      (by (format_after documents format) (λ next at. within-same n next name (after-found documents format next at).is (after-found documents format next at).role)))
    where
      or-none : (o : Option (List ℕ)) → option_or o None ≡ o
      or-none None = refl
      or-none (Some v) = refl

      by : (o : Option Site)
          → ((next : Site) → o ≡ Some next
          → over (uses_of (formats.parts_of (for_each documents (number_after documents)))) (formats.joined_step (map given own) name) None n (number_of documents next)
          ≡ format_within n documents next name)
          → formats.nearest (map (over (uses_of (formats.parts_of (for_each documents (number_after documents)))) (formats.joined_step (map given own) name) None n)
          (option_to_list (option_map (number_of documents) o)))
          ≡ given_by (format_within n documents) o name
      by None next = refl
      by (Some format) next = or-none _ ∙ next format refl

  -- what a format gives
  pub joined-same : (format : Site) (name : List ℕ) → IsSite documents format → is_format (role_of documents format) ≡ true
      → formats.joined (map given own) (for_each documents (number_after documents)) (number_of documents format) name ≡ format_value documents format name
  joined-same format name is role =
      ap (λ n. over (uses_of (formats.parts_of (for_each documents (number_after documents)))) (formats.joined_step (map given own) name) None n (number_of documents format))
      (length-map (for_each documents (number_after documents)) option_to_list
      ∙ (length-map (all_sites documents) (number_after documents) ∙ length-sites documents))
      ∙ within-same (count_of documents) format name is role

-- a table of all elements
pub all-tabled : {X : Type 0} (relation : Site → X → Type 0) (documents : List SchemaDocument) (sites : List Site) (table : List X) → sites ≡ all_sites documents
    → AreTabled relation sites (length sites) table → AreTabled relation (all_sites documents) (count_of documents) table
all-tabled relation documents sites table is tabled =
    subst (λ (n : ℕ). AreTabled relation (all_sites documents) n table) (length-sites documents)
    (subst (λ (s : List Site). AreTabled relation s (length s) table) is tabled)

-- the formats of a schema are joined, where each is joined by its number
pub all-joined : (documents : List SchemaDocument) (sites : List Site) (own lent : List Properties) (after : List (Option ℕ)) (made : List Format)
    → sites ≡ all_sites documents → AreTabled (IsFormatOwn documents) sites (length sites) own → lent ≡ own → after ≡ for_each documents (number_after documents)
    → length made ≡ length after
    → ((format : ℕ) (q : List ℕ) → format < length after → value_by_format made format q ≡ formats.joined (map given lent) after format q)
    → AreJoined documents (count_of documents) made
all-joined documents sites own lent after made is tabled same-own same-after counted each = record {
  counted = counted ∙ long;
  each = λ format name at role.
      each (number_of documents format) name (subst (λ (n : ℕ). number_of documents format < n) (sym long) (number-below documents format at))
      ∙ (ap (λ (ns : List (Option ℕ)). formats.joined (map given lent) ns (number_of documents format) name) same-after
      ∙ (ap (λ (ps : List Properties). formats.joined (map given ps) (for_each documents (number_after documents)) (number_of documents format) name) same-own
      ∙ joined-same documents own (all-tabled (IsFormatOwn documents) documents sites own is tabled) format name at role));
}
  where
    long : length after ≡ count_of documents
    long = ap length same-after ∙ (length-map (all_sites documents) (number_after documents) ∙ length-sites documents)

-- what follows from two things that are so of an answer
pub both-ok : {V E : Type 0} (P Q R : V → Type 0) (r : Result V E) → ((v : V) → P v → Q v → R v) → IfOk r P → IfOk r Q → IfOk r R
both-ok P Q R (Ok v) all p q = all v p q
both-ok P Q R (Err e) all p q = tt
