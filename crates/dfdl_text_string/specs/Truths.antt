-- Which boolean a text is, and what a boolean is written as. 'Simple Types' (textBooleanTrueRep,
-- textBooleanFalseRep).
use Rattle.std.specs.Prelude.{ℕ, List, [], ◌∷◌, Option, Some, None, Bool, true, false, ◌==◌, if◌then◌else◌}
use Rattle.std.specs.Char.{eq_ignore_ascii_case}
use Rattle.std.specs.List.{list_any}
use Rattle.std.specs.Cmp.Lexicographic.{pointwise}
use Rattle.dfdl_forms.specs.declared.text.TruthForm.{TruthForm}

-- a character matches a character; with fold also an ASCII letter its other case
abbrev pub is_same : Bool → ℕ → ℕ → Bool
is_same true c d = eq_ignore_ascii_case c d
is_same false c d = c == d

-- the texts match character by character
abbrev pub is_same_text : Bool → List ℕ → List ℕ → Bool
is_same_text fold text other = pointwise (is_same fold) text other

-- the text matches some text of the list
abbrev pub is_among : Bool → List (List ℕ) → List ℕ → Bool
is_among fold texts text = list_any (λ one. is_same_text fold one text) texts

-- true, if the text is one of true; else false, if it is one of false
abbrev pub truth_of : TruthForm → List ℕ → Option Bool
truth_of form text =
    if is_among form.fold form.truths text then Some true
    else if is_among form.fold form.falses text then Some false
    else None

-- the first text of a list
abbrev pub first_text : List (List ℕ) → List ℕ
first_text [] = []
first_text (text ∷ texts) = text

-- what a boolean is written as: the first text of its list
abbrev pub written_truth : TruthForm → Bool → List ℕ
written_truth form true = first_text form.truths
written_truth form false = first_text form.falses
