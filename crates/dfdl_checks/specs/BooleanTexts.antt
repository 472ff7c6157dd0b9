-- How text booleans are read ('Simple Types', on textBooleanTrueRep and textBooleanFalseRep).
use Rattle.std.specs.Prelude.{ℕ, List, [], ◌∷◌, Bool, true, false, ◌||◌, Option, Some, None, codes}
use Rattle.std.specs.List.{list_any}
use Rattle.std.specs.Str.{chars}
use Rattle.dfdl_forms.specs.declared.encoding.Encoding.{Encoding}
use Rattle.dfdl_forms.specs.declared.text.TruthForm.{TruthForm}
use Rattle.dfdl_literals.specs.TextSteps.{texts_reading}
use Rattle.dfdl_literals.specs.declared.text_lists.TextList.{TextList}
use Rattle.dfdl_literals.specs.declared.text_lists.TextList.TheVariants.{Texts, Malformed, Other}
use Rattle.dfdl_scope.specs.Expressions.{literal}
use Rattle.dfdl_scope.specs.Scoping.{Told, Value, Absent, Twice}
use Rattle.dfdl_checks.specs.Encodings.{encoding_told}
use Rattle.dfdl_checks.specs.Judged.{Judged}
use Rattle.dfdl_checks.specs.Pads.{lacks_character}
use Rattle.dfdl_checks.specs.Subjects.{is_told, told_at}

-- what the texts that are told stand for; this text where none are told
abbrev pub texts_told : List ℕ → Told → TextList
texts_told otherwise (Value written) = texts_reading (chars (literal written))
texts_told otherwise Absent = Texts (otherwise ∷ [])
texts_told otherwise (Twice place) = Other

-- the texts of true at the component
abbrev pub true_texts : Judged → TextList
true_texts subject = texts_told (codes "true") (told_at subject (codes "textBooleanTrueRep"))

-- the texts of false at the component
abbrev pub false_texts : Judged → TextList
false_texts subject = texts_told (codes "false") (told_at subject (codes "textBooleanFalseRep"))

-- the text is no list of string literals
abbrev pub is_list_malformed : TextList → Bool
is_list_malformed (Texts texts) = false
is_list_malformed Malformed = true
is_list_malformed Other = false

-- the text is a list of string literals that are no texts, or of none
abbrev pub is_list_other : TextList → Bool
is_list_other (Texts texts) = false
is_list_other Malformed = false
is_list_other Other = true

-- the encoding lacks a character of the texts
abbrev pub lacks_texts : Option Encoding → TextList → Bool
lacks_texts encoding (Texts texts) = list_any (λ text. list_any (λ c. lacks_character encoding (Some c)) text) texts
lacks_texts encoding Malformed = false
lacks_texts encoding Other = false

-- a text of true or of false has a character that the component's encoding lacks
abbrev pub are_truth_texts_outside : Judged → Bool
are_truth_texts_outside subject =
    let encoding : Option Encoding = encoding_told (told_at subject (codes "encoding")) in
    lacks_texts encoding (true_texts subject) || lacks_texts encoding (false_texts subject)

-- a boolean with these texts, if both are told; with `fold` ASCII letters match in both cases
abbrev pub truth_texts : TextList → TextList → Bool → Option TruthForm
truth_texts (Texts truths) (Texts falses) fold = Some (record { truths = truths; falses = falses; fold = fold })
truth_texts _ _ fold = None

-- the form of the component's booleans
abbrev pub truth_form_of : Judged → Option TruthForm
truth_form_of subject = truth_texts (true_texts subject) (false_texts subject) (is_told subject (codes "ignoreCase") (codes "yes"))
