-- The keys by which a branch of a choice is taken ('Choices', on choiceDispatchKey and choiceBranchKey). A choice that is told a key is
-- built for parsing; each literal of a branch's choiceBranchKey, as characters, is a key of that branch.
use Rattle.std.specs.Prelude.{ℕ, List, [], ◌∷◌, map, Bool, true, false, ◌&&◌, ◌||◌, Option, None, codes, encode_utf8_all, if◌then◌else◌}
use Rattle.std.specs.Str.{chars}
use Rattle.dfdl_literals.specs.TextSteps.{texts_reading}
use Rattle.dfdl_literals.specs.declared.text_lists.TextList.{TextList}
use Rattle.dfdl_literals.specs.declared.text_lists.TextList.TheVariants.{Texts, Malformed, Other}
use Rattle.dfdl_scope.specs.Expressions.{literal}
use Rattle.dfdl_scope.specs.Scoping.{Element, Told, Value, Absent, Twice, told}
use Rattle.dfdl_checks.specs.BooleanTexts.{is_list_malformed}
use Rattle.dfdl_checks.specs.Calculations.{is_given, written_told}
use Rattle.dfdl_checks.specs.Judged.{Judged}
use Rattle.dfdl_checks.specs.Subjects.{is_choice, told_at}
use Rattle.dfdl_checks.specs.declared.purpose.Purpose.{Purpose}
use Rattle.dfdl_checks.specs.declared.purpose.Purpose.TheVariants.{Parsing, Unparsing}
use Rattle.dfdl_checks.specs.declared.subject.Kind.{Kind}

-- a choice whose branch is told by a key: of a component of this kind with this chain
abbrev pub is_keyed_by : Kind → List Element → Bool
is_keyed_by kind chain = is_choice kind && is_given (told chain (codes "choiceDispatchKey"))

-- the same of the component
abbrev pub is_keyed : Judged → Bool
is_keyed subject = is_keyed_by subject.kind subject.chain

-- what is told as the keys of a branch; an expression is told of elsewhere
abbrev pub keys_told : Told → TextList
keys_told (Value written) = texts_reading (chars (literal written))
keys_told Absent = Other
keys_told (Twice place) = Other

-- the texts of a list, if it is one of texts, in UTF-8
abbrev pub texts_in : TextList → List (List ℕ)
texts_in (Texts texts) = map encode_utf8_all texts
texts_in Malformed = []
texts_in Other = []

-- the keys of a branch with this chain
abbrev pub keys_of_chain : List Element → List (List ℕ)
keys_of_chain chain = texts_in (keys_told (told chain (codes "choiceBranchKey")))

-- the keys of the component, where it is a branch of a choice by a key
abbrev pub keys_of : Judged → List (List ℕ)
keys_of subject = if subject.standing.needs_key then keys_of_chain subject.chain else []

-- a branch of a choice by a key, the text of whose keys is no list of string literals
abbrev pub is_key_malformed : Judged → Bool
is_key_malformed subject = subject.standing.needs_key && is_list_malformed (keys_told (told_at subject (codes "choiceBranchKey")))

-- there is none
abbrev pub is_no_key : List (List ℕ) → Bool
is_no_key [] = true
is_no_key (key ∷ keys) = false

-- 38: a branch of a choice by a key that has none, or one that it or a branch before it has already
abbrev pub is_key_unfit : Judged → Bool
is_key_unfit subject = subject.standing.needs_key && (is_no_key (keys_of_chain subject.chain) || subject.standing.repeats_key)

-- the expression that tells the key by which the branch of a choice is taken, as it is written, which is built for parsing
abbrev pub key_expression_for : Purpose → Judged → Option (List ℕ)
key_expression_for Parsing subject = if is_choice subject.kind then written_told (told_at subject (codes "choiceDispatchKey")) else None
key_expression_for Unparsing subject = None

-- the same for the component's purpose
abbrev pub key_expression : Judged → Option (List ℕ)
key_expression subject = key_expression_for subject.purpose subject
