-- In which groups a component stands, and what they ask of it ('Sequence Groups', on initiatedContent and separatorSuppressionPolicy;
-- 'Choices', on choiceDispatchKey and choiceBranchKey).
-- What stands in a group that several references name stands in each of these.
use Rattle.std.specs.Prelude.{ℕ, List, [], ◌∷◌, ◌++◌, map, ◌&&◌, ◌||◌, not, Bool, true, false, nat_eq, codes, bytes_eq, if◌then◌else◌}
use Rattle.std.specs.List.{list_any}
use Rattle.dfdl_documents.specs.Documents.{SchemaDocument}
use Rattle.dfdl_components.specs.declared.site.Site.{Site}
use Rattle.dfdl_components.specs.Recursion.{number_of}
use Rattle.dfdl_scope.specs.Scoping.{Element, Told, told}
use Rattle.dfdl_checks.specs.Delimiters.{is_delimiter}
use Rattle.dfdl_checks.specs.Keys.{is_keyed_by, keys_of_chain}
use Rattle.dfdl_checks.specs.Places.{both_of, nowhere}
use Rattle.dfdl_checks.specs.Subjects.{is_plain_group, is_sequence, is_word}
use Rattle.dfdl_checks.specs.declared.subject.Kind.{Kind}
use Rattle.dfdl_checks.specs.declared.subject.Standing.{Standing}
use Rattle.dfdl_chains.specs.Everywhere.{all_sites}
use Rattle.dfdl_chains.specs.Kinds.{kind_at}
use Rattle.dfdl_chains.specs.Parts.{parts_at}
use Rattle.dfdl_breaches.specs.Roots.{chain_at}

-- optional slots of a sequence with this policy may be missing at its end alone
abbrev pub is_trailing : Told → Bool
is_trailing policy = is_word (codes "trailingEmpty") policy || is_word (codes "trailingEmptyStrict") policy

-- a part of a sequence with this policy, the last one or another, may not be unbounded: under never, and at the end alone unless it
-- is the last
abbrev pub asks_bound : Bool → Told → Bool
asks_bound is_last policy = is_word (codes "never") policy || (is_trailing policy && not is_last)

-- a sequence with a separator
abbrev pub is_separated : Kind → List Element → Bool
is_separated kind chain = is_sequence kind && is_delimiter (told chain (codes "separator"))

-- the same of a group of this kind with this chain, if it is a sequence with a separator
abbrev pub is_bounding : Bool → Kind → List Element → Bool
is_bounding is_last kind chain = is_separated kind chain && asks_bound is_last (told chain (codes "separatorSuppressionPolicy"))

-- the content of a group of this kind with this chain is initiated
abbrev pub is_initiating : Kind → List Element → Bool
is_initiating kind chain = is_plain_group kind && is_word (codes "yes") (told chain (codes "initiatedContent"))

-- a choice by a key whose content is initiated: initiators of its branches resolve a point of uncertainty
abbrev pub is_resolving : Kind → List Element → Bool
is_resolving kind chain = is_keyed_by kind chain && is_initiating kind chain

-- what a component of this kind with this chain asks of its last part, or of another
abbrev pub asked_by : Bool → Kind → List Element → Standing
asked_by is_last kind chain = record {
  is_initiated = is_initiating kind chain;
  needs_bound = is_bounding is_last kind chain;
  needs_key = false;
  repeats_key = false;
  resolves = is_resolving kind chain;
}

-- the same of an element of the documents
abbrev pub asked_at : List SchemaDocument → Site → Bool → Standing
asked_at documents group is_last = asked_by is_last (kind_at documents group) (chain_at documents group)

-- there are no more
abbrev pub is_nothing : List ℕ → Bool
is_nothing [] = true
is_nothing (part ∷ others) = false

-- what is asked of a component among the parts of these numbers
abbrev pub standing_among : (Bool → Standing) → List ℕ → ℕ → Standing
standing_among asked [] component = nowhere
standing_among asked (part ∷ others) component =
    both_of (if nat_eq part component then asked (is_nothing others) else nowhere) (standing_among asked others component)

-- a key stands among those that are taken
abbrev pub is_taken : List (List ℕ) → List ℕ → Bool
is_taken taken key = list_any (λ other. bytes_eq other key) taken

-- one of these keys is taken before, or stands among them before
abbrev pub repeats : List (List ℕ) → List (List ℕ) → Bool
repeats taken [] = false
repeats taken (key ∷ keys) = is_taken taken key || repeats (taken ++ key ∷ []) keys

-- the keys of an element of the documents, as a branch
abbrev pub keys_at : List SchemaDocument → Site → List (List ℕ)
keys_at documents own = keys_of_chain (chain_at documents own)

-- what a choice by a key asks of a branch that repeats a key, or of another
abbrev pub asked_key : Bool → Standing
asked_key again = record { is_initiated = false; needs_bound = false; needs_key = true; repeats_key = again; resolves = false }

-- what a choice by a key asks of a component among these branches, where those before have taken these keys
abbrev pub keying_among : List SchemaDocument → List (List ℕ) → List Site → ℕ → Standing
keying_among documents taken [] component = nowhere
keying_among documents taken (branch ∷ others) component =
    both_of (if nat_eq (number_of documents branch) component then asked_key (repeats taken (keys_at documents branch)) else nowhere)
    (keying_among documents (taken ++ keys_at documents branch) others component)

-- an element of the documents is a choice by a key
abbrev pub is_keyed_at : List SchemaDocument → Site → Bool
is_keyed_at documents group = is_keyed_by (kind_at documents group) (chain_at documents group)

-- the same of these branches of a group, if that is a choice by a key
abbrev pub keying_if : List SchemaDocument → Bool → List Site → ℕ → Standing
keying_if documents is_keyed branches component = if is_keyed then keying_among documents [] branches component else nowhere

-- what a component's group asks of it
abbrev pub standing_in : List SchemaDocument → Site → ℕ → Standing
standing_in documents group component =
    both_of (standing_among (asked_at documents group) (map (number_of documents) (parts_at documents group)) component)
    (keying_if documents (is_keyed_at documents group) (parts_at documents group) component)

-- what all of these ask of it
abbrev pub standing_from : List SchemaDocument → List Site → ℕ → Standing
standing_from documents [] component = nowhere
standing_from documents (group ∷ others) component = both_of (standing_in documents group component) (standing_from documents others component)

-- where the component stands
unfoldable pub standing_at : List SchemaDocument → Site → Standing
standing_at documents own = standing_from documents (all_sites documents) (number_of documents own)
