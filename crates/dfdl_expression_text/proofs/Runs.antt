-- Each expression is run through and accepted, and the reader counts its tokens.
use Rattle.std.proofs.Common.{◌≡◌, ℕ, ◌==◌, ◌&&◌, ◌||◌, not, Bool, true, false, if◌then◌else◌, List, [], ◌∷◌, ◌++◌, ◌⊎◌, inl, inr, Option, Some, None, Result, Ok, Err, IfSome, IfOk, IsSome, refl, ap, sym, subst, ◌∙◌, append_assoc}
use Rattle.std.proofs.lemmas.Bool.{cond_both, eqb-true, eq-eqb, cases_Bool, or_parts}
use Rattle.std.proofs.lemmas.List.{append-nil}
use Rattle.dfdl_layers.specs.Tellers.{Each}
use Rattle.dfdl_layers.proofs.Runs.{each-append}
use Rattle.dfdl_xml_chars.specs.Characters.{is_name_start, is_name_char}
use Rattle.dfdl_expression_text.specs.declared.kind.Kind.{Kind}
use Rattle.dfdl_expression_text.specs.declared.kind.Kind.TheVariants as k
use Rattle.dfdl_expression_text.specs.declared.piece.Stage.{Stage}
use Rattle.dfdl_expression_text.specs.declared.piece.Stage.TheVariants.{AfterI, AfterIf, First, Colon, Second}
use Rattle.dfdl_expression_text.specs.declared.piece.Word.{Word}
use Rattle.dfdl_expression_text.specs.declared.piece.Word.TheVariants as w
use Rattle.dfdl_expression_text.specs.declared.piece.Quote.{Quote}
use Rattle.dfdl_expression_text.specs.declared.piece.Quote.TheVariants.{Single, Double}
use Rattle.dfdl_expression_text.specs.declared.piece.Piece.{Piece}
use Rattle.dfdl_expression_text.specs.declared.piece.Piece.TheVariants as p
use Rattle.dfdl_expression_text.specs.declared.piece.Class.{Class}
use Rattle.dfdl_expression_text.specs.declared.piece.Class.TheVariants as class
use Rattle.dfdl_expression_text.specs.Tokens.{is_white, is_digit, is_quote, AllPass, Stops, IsPart, IsPrefixed, IsName, is_if, IsDigits, IsNumber, IsQuoted}
use Rattle.dfdl_expression_text.specs.Tokens.{signs, words, IsOneOf, sticks, IsToken, Spelled}
use Rattle.dfdl_expression_text.specs.Tokens as token
use Rattle.dfdl_expression_text.specs.Machine.{At, next, may_end, may_end_if, sign_of, class_of, mark_of, State, on, begin, hold, or_at, word_begins, letter_begins}
use Rattle.dfdl_expression_text.specs.Machine.{begin_by, begin_at, end_before, stage_next, named_at, name_step, word_next, step_piece, step, accepts, accepts_piece}
use Rattle.dfdl_expression_text.proofs.Comes.{Comes, back_at, ends_at_last}
use Rattle.std.proofs.Common.{◌+◌, length, arith, nat_le, nat_lt, ◌≤◌, ◌<◌}
use Rattle.std.proofs.lemmas.Bool.Decides.{nat_tests}
use Rattle.std.specs.Option.{option_and_then}
use Rattle.std.proofs.lemmas.Option.{option_and_then_some}
use Rattle.dfdl_layers.specs.Tellers.{go_on, run}
use Rattle.dfdl_xml_chars.specs.Characters.{low_start_rows, low_name_rows, high_name_rows, high_start_rows, high_mark_rows}
use Rattle.dfdl_expression_text.specs.Tokens.{IsFraction}
use Rattle.dfdl_expression_text.specs.declared.mark.Mark.{Mark}
use Rattle.dfdl_expression_text.specs.declared.mark.Mark.TheVariants as m
use Rattle.dfdl_expression_text.specs.declared.mark.Frame.{Frame}
use Rattle.dfdl_expression_text.specs.Machine.{act, start}
use Rattle.dfdl_expression_text.specs.Syntax.{Reads, spelling}
use Rattle.dfdl_expression_text.proofs.Texts.{at_option, letters, is_equals}
use Rattle.dfdl_expression_text.proofs.Drives.{drive, driven_through}

-- the text is run through from the state and accepted, and so many tokens have begun then
pub record Leads (n : ℕ) (s : State) (text : List ℕ) : Type 0 where
  pub last : State
  pub runs : run step s text ≡ Ok last
  pub ends : accepts last ≡ true
  pub counted : last.count ≡ n

abbrev pub st : Piece → At → ℕ → State
st piece at count = record { piece = piece; at = at; count = count }

pub skip : {A : Type 0} (b : Bool) (x y : A) → b ≡ false → (if b then x else y) ≡ y
skip true x y is = absurd (cc)
skip false x y is = refl

take_then : {A : Type 0} (b : Bool) (x y : A) → b ≡ true → (if b then x else y) ≡ x
take_then true x y is = refl
take_then false x y is = absurd (cc)

lead : (n : ℕ) (s t : State) (c : ℕ) (text : List ℕ) → step s c ≡ Ok t → Leads n t text → Leads n s (c ∷ text)
lead n s t c text is more = record { last = more.last; runs = ap (go_on (λ u. run step u text)) is ∙ more.runs; ends = more.ends; counted = more.counted }

-- the piece of s has ended before the text, and t is the state then
release : (n : ℕ) (test : ℕ → Bool) (s t : State) (rest : List ℕ) → (accepts t ≡ true → accepts s ≡ true) → s.count ≡ t.count
    → ((c : ℕ) → test c ≡ false → (step s c ≡ step t c) ⊎ (step t c ≡ Err 3)) → Stops test rest → Leads n t rest → Leads n s rest
release n test s t [] ends same steps stops more =
    let is : t ≡ more.last = (let runs = more.runs in cc) in
    record { last = s; runs = refl; ends = ends (subst (λ u. accepts u ≡ true) (sym is) more.ends); counted = same ∙ (ap (λ u. u.count) is ∙ more.counted) }
release n test s t (c ∷ rest) ends same steps stops more = elim (steps c stops) [
  | inl is ↦ record { last = more.last; runs = ap (go_on (λ u. run step u rest)) is ∙ more.runs; ends = more.ends; counted = more.counted }
  | inr is ↦ absurd (let never : Err 3 ≡ Ok more.last = sym (ap (go_on (λ u. run step u rest)) is) ∙ more.runs in cc)
]

-- what characters begin
module _ where
  class_36 : class_of 36 ≡ class.Sign k.Dollar
  unfolding class_of sign_of is_name_start low_start_rows high_start_rows
  class_36 = refl

  class_47 : class_of 47 ≡ class.Sign k.Slash
  unfolding class_of sign_of is_name_start low_start_rows high_start_rows
  class_47 = refl

  class_40 : class_of 40 ≡ class.Sign k.Open
  unfolding class_of sign_of is_name_start low_start_rows high_start_rows
  class_40 = refl

  class_41 : class_of 41 ≡ class.Sign k.Close
  unfolding class_of sign_of is_name_start low_start_rows high_start_rows
  class_41 = refl

  class_44 : class_of 44 ≡ class.Sign k.Comma
  unfolding class_of sign_of is_name_start low_start_rows high_start_rows
  class_44 = refl

  class_91 : class_of 91 ≡ class.Sign k.OpenIndex
  unfolding class_of sign_of is_name_start low_start_rows high_start_rows
  class_91 = refl

  class_93 : class_of 93 ≡ class.Sign k.CloseIndex
  unfolding class_of sign_of is_name_start low_start_rows high_start_rows
  class_93 = refl

  class_45 : class_of 45 ≡ class.Sign k.Minus
  unfolding class_of sign_of is_name_start low_start_rows high_start_rows
  class_45 = refl

  class_43 : class_of 43 ≡ class.Sign k.Calculation
  unfolding class_of sign_of is_name_start low_start_rows high_start_rows
  class_43 = refl

  class_42 : class_of 42 ≡ class.Sign k.Calculation
  unfolding class_of sign_of is_name_start low_start_rows high_start_rows
  class_42 = refl

  class_61 : class_of 61 ≡ class.Sign k.Comparison
  unfolding class_of sign_of is_name_start low_start_rows high_start_rows
  class_61 = refl

  class_58 : class_of 58 ≡ class.Other
  unfolding class_of sign_of is_name_start low_start_rows high_start_rows
  class_58 = refl

  class_33 : class_of 33 ≡ class.Bang
  unfolding class_of
  class_33 = refl

  class_46 : class_of 46 ≡ class.Point
  unfolding class_of
  class_46 = refl

  class_60 : class_of 60 ≡ class.Angle
  unfolding class_of
  class_60 = refl

  class_62 : class_of 62 ≡ class.Angle
  unfolding class_of
  class_62 = refl

  class_39 : class_of 39 ≡ class.Quote Single
  unfolding class_of
  class_39 = refl

  class_34 : class_of 34 ≡ class.Quote Double
  unfolding class_of
  class_34 = refl

  pub class_white : (c : ℕ) → is_white c ≡ true → class_of c ≡ class.White
  unfolding class_of
  class_white c is = take_then (is_white c) class.White _ is

  class_digit : (c : ℕ) → is_digit c ≡ true → class_of c ≡ class.Digit
  unfolding class_of
  class_digit c is =
      skip (is_white c) class.White _ (grind (arith, nat_tests, is))
      ∙ (skip (c == 39) (class.Quote Single) _ (grind (arith, nat_tests, is))
      ∙ (skip (c == 34) (class.Quote Double) _ (grind (arith, nat_tests, is)) ∙ take_then (is_digit c) class.Digit _ is))

  -- what begins a name is none of the others
  start_apart : (c : ℕ) → is_name_start c ≡ true
      → (is_white c ≡ false) × ((c == 39) ≡ false) × ((c == 34) ≡ false) × (is_digit c ≡ false) × ((c == 46) ≡ false) × ((c == 60 || c == 62) ≡ false) × ((c == 33) ≡ false)
  unfolding is_name_start low_start_rows high_start_rows
  start_apart c is = (grind (arith, nat_tests, is), grind (arith, nat_tests, is), grind (arith, nat_tests, is), grind (arith, nat_tests, is), grind (arith, nat_tests, is), grind (arith, nat_tests, is), grind (arith, nat_tests, is))

  class_letter : (c : ℕ) → is_name_start c ≡ true → class_of c ≡ class.Letter
  unfolding class_of
  class_letter c is =
      let (a1, a2, a3, a4, a5, a6, a7) = start_apart c is in
      skip (is_white c) class.White _ a1
      ∙ (skip (c == 39) (class.Quote Single) _ a2
      ∙ (skip (c == 34) (class.Quote Double) _ a3
      ∙ (skip (is_digit c) class.Digit _ a4
      ∙ (skip (c == 46) class.Point _ a5
      ∙ (skip (c == 60 || c == 62) class.Angle _ a6 ∙ (skip (c == 33) class.Bang _ a7 ∙ take_then (is_name_start c) class.Letter _ is))))))

-- where an operator may stand no name may
abbrev is_operator : Kind → Bool
is_operator k.Calculation = true
is_operator k.Comparison = true
is_operator k.Junction = true
is_operator k.Then = true
is_operator k.Else = true
is_operator _ = false

to : Mark → List Frame → At
to mark fs = record { mark = mark; opened = fs }

no_name : (mark : Mark) (fs : List Frame) (kind : Kind) (u : At) → is_operator kind ≡ true
    → next (record { mark = mark; opened = fs }) kind ≡ Some u → next (record { mark = mark; opened = fs }) k.Name ≡ None
unfolding act
no_name m.BegunIf fs kind u operator goes = refl
no_name (m.Callable b) fs kind u operator goes = refl
no_name (m.Named b) fs kind u operator goes = refl
no_name (m.Stepped b) fs kind u operator goes = refl
no_name (m.Behind b) fs kind u operator goes = refl
no_name m.Closed fs kind u operator goes = refl
no_name m.Begin fs k.Then u operator goes = absurd (cc)
no_name m.Arguments fs k.Then u operator goes = absurd (cc)
no_name (m.Operand b) fs k.Then u operator goes = absurd (cc)
no_name (m.Positive b) fs k.Then u operator goes = absurd (cc)
no_name (m.Variable b) fs k.Then u operator goes = absurd (cc)
no_name (m.Step b) fs k.Then u operator goes = absurd (cc)
no_name _ fs _ u operator goes = absurd (cc)

-- where `if` may stand a name may
name_for_if : (mark : Mark) (fs : List Frame) (u : At) → next (record { mark = mark; opened = fs }) k.If ≡ Some u
    → IsSome (next (record { mark = mark; opened = fs }) k.Name)
unfolding act
name_for_if m.Begin fs u goes = refl
name_for_if m.Arguments fs u goes = refl
name_for_if (m.Operand b) fs u goes = refl
name_for_if (m.Positive b) fs u goes = refl
name_for_if (m.Variable b) fs u goes = refl
name_for_if (m.Step b) fs u goes = refl
name_for_if _ fs u goes = absurd (cc)

-- where a number may stand a `.` may
dot_for_literal : (mark : Mark) (fs : List Frame) (u : At) → next (record { mark = mark; opened = fs }) k.Literal ≡ Some u
    → IsSome (next (record { mark = mark; opened = fs }) k.Dot)
unfolding act
dot_for_literal m.Begin fs u goes = refl
dot_for_literal m.Arguments fs u goes = refl
dot_for_literal (m.Operand b) fs u goes = refl
dot_for_literal (m.Positive b) fs u goes = refl
dot_for_literal _ fs u goes = absurd (cc)

known_some : {A : Type 0} (o : Option A) → IsSome o → (a : A) × (o ≡ Some a)
known_some None is = absurd (cc)
known_some (Some a) is = (a, refl)

-- a token of this kind stands here, the state behind it is u, and the rest is read from there
module _ (n : ℕ) (at u : At) (count : ℕ) (rest : List ℕ) where
  abbrev More : Type 0
  More = Leads n (st p.Ready u (count + 1)) rest

  sign : (c : ℕ) (kind : Kind) → class_of c ≡ class.Sign kind → next at kind ≡ Some u → More → Leads n (st p.Ready at count) (c ∷ rest)
  sign c kind is goes more =
      lead n (st p.Ready at count) (st p.Ready u (count + 1)) c rest
      (ap (λ cl. begin_by cl at count c) is ∙ ap (λ o. on p.Ready (count + 1) o) goes) more

  dots : next at k.Dot ≡ Some u → More → Leads n (st p.Ready at count) (46 ∷ 46 ∷ rest)
  dots goes more =
      lead n (st p.Ready at count) (st p.Point at (count + 1)) 46 (46 ∷ rest)
      (ap (λ cl. begin_by cl at count 46) class_46 ∙ ap (λ o. hold p.Point count at o) goes)
      (lead n (st p.Point at (count + 1)) (st p.Ready u (count + 1)) 46 rest (ap (λ o. on p.Ready (count + 1) o) goes) more)

  equals : (c : ℕ) → class_of c ≡ class.Angle → next at k.Comparison ≡ Some u → More → Leads n (st p.Ready at count) (c ∷ 61 ∷ rest)
  equals c is goes more =
      lead n (st p.Ready at count) (st p.MayEqual u (count + 1)) c (61 ∷ rest)
      (ap (λ cl. begin_by cl at count c) is ∙ ap (λ o. on p.MayEqual (count + 1) o) goes)
      (lead n (st p.MayEqual u (count + 1)) (st p.Ready u (count + 1)) 61 rest refl more)

  differs : next at k.Comparison ≡ Some u → More → Leads n (st p.Ready at count) (33 ∷ 61 ∷ rest)
  differs goes more =
      lead n (st p.Ready at count) (st p.MustEqual u (count + 1)) 33 (61 ∷ rest)
      (ap (λ cl. begin_by cl at count 33) class_33 ∙ ap (λ o. on p.MustEqual (count + 1) o) goes)
      (lead n (st p.MustEqual u (count + 1)) (st p.Ready u (count + 1)) 61 rest refl more)

  angle : (c : ℕ) → class_of c ≡ class.Angle → next at k.Comparison ≡ Some u → Stops is_equals rest → More → Leads n (st p.Ready at count) (c ∷ rest)
  angle c is goes stops more =
      lead n (st p.Ready at count) (st p.MayEqual u (count + 1)) c rest
      (ap (λ cl. begin_by cl at count c) is ∙ ap (λ o. on p.MayEqual (count + 1) o) goes)
      (release n is_equals (st p.MayEqual u (count + 1)) (st p.Ready u (count + 1)) rest (λ e. e) refl (λ d e. inl (skip (d == 61) _ _ e)) stops more)

  one_dot : next at k.Dot ≡ Some u → Stops (λ c. c == 46 || is_digit c) rest → More → Leads n (st p.Ready at count) (46 ∷ rest)
  one_dot goes stops more =
      lead n (st p.Ready at count) (st p.Point at (count + 1)) 46 rest
      (ap (λ cl. begin_by cl at count 46) class_46 ∙ ap (λ o. hold p.Point count at o) goes)
      (release n (λ c. c == 46 || is_digit c) (st p.Point at (count + 1)) (st p.Ready u (count + 1)) rest (λ e. ap may_end_if goes ∙ e) refl
      (λ d e. inl (let (first, second) = or_parts (d == 46) (is_digit d) e in
      skip (d == 46) _ _ first ∙ (skip (is_digit d) _ _ second ∙ ap (λ o. end_before o (count + 1) d) goes))) stops more)

  spelled_out : Stops is_name_char rest → More → Leads n (st p.Spelled u (count + 1)) rest
  spelled_out stops more =
      release n is_name_char (st p.Spelled u (count + 1)) (st p.Ready u (count + 1)) rest (λ e. e) refl (λ d e. inl (skip (is_name_char d) _ _ e)) stops more

  -- the letters of a word
  letters_lead : (word : Word) → Leads n (st p.Spelled u (count + 1)) rest → Leads n (st (p.Word word) u (count + 1)) (letters word ++ rest)
  letters_lead w.D more = lead n (st (p.Word w.D) u (count + 1)) (st p.Spelled u (count + 1)) 100 rest refl more
  letters_lead w.V more = lead n (st (p.Word w.V) u (count + 1)) (st p.Spelled u (count + 1)) 118 rest refl more
  letters_lead w.R more = lead n (st (p.Word w.R) u (count + 1)) (st p.Spelled u (count + 1)) 114 rest refl more
  letters_lead w.E more = lead n (st (p.Word w.E) u (count + 1)) (st p.Spelled u (count + 1)) 101 rest refl more
  letters_lead w.N more = lead n (st (p.Word w.N) u (count + 1)) (st p.Spelled u (count + 1)) 110 rest refl more
  letters_lead w.Nd more = lead n (st (p.Word w.Nd) u (count + 1)) (st (p.Word w.D) u (count + 1)) 110 (100 ∷ rest) refl
      (lead n (st (p.Word w.D) u (count + 1)) (st p.Spelled u (count + 1)) 100 rest refl more)
  letters_lead w.Od more = lead n (st (p.Word w.Od) u (count + 1)) (st (p.Word w.D) u (count + 1)) 111 (100 ∷ rest) refl
      (lead n (st (p.Word w.D) u (count + 1)) (st p.Spelled u (count + 1)) 100 rest refl more)
  letters_lead w.Iv more = lead n (st (p.Word w.Iv) u (count + 1)) (st (p.Word w.V) u (count + 1)) 105 (118 ∷ rest) refl
      (lead n (st (p.Word w.V) u (count + 1)) (st p.Spelled u (count + 1)) 118 rest refl more)
  letters_lead w.Div more = lead n (st (p.Word w.Div) u (count + 1)) (st (p.Word w.Iv) u (count + 1)) 100 (105 ∷ 118 ∷ rest) refl
      (lead n (st (p.Word w.Iv) u (count + 1)) (st (p.Word w.V) u (count + 1)) 105 (118 ∷ rest) refl
      (lead n (st (p.Word w.V) u (count + 1)) (st p.Spelled u (count + 1)) 118 rest refl more))
  letters_lead w.Se more = lead n (st (p.Word w.Se) u (count + 1)) (st (p.Word w.E) u (count + 1)) 115 (101 ∷ rest) refl
      (lead n (st (p.Word w.E) u (count + 1)) (st p.Spelled u (count + 1)) 101 rest refl more)
  letters_lead w.En more = lead n (st (p.Word w.En) u (count + 1)) (st (p.Word w.N) u (count + 1)) 101 (110 ∷ rest) refl
      (lead n (st (p.Word w.N) u (count + 1)) (st p.Spelled u (count + 1)) 110 rest refl more)
  letters_lead w.Hen more = lead n (st (p.Word w.Hen) u (count + 1)) (st (p.Word w.En) u (count + 1)) 104 (101 ∷ 110 ∷ rest) refl
      (lead n (st (p.Word w.En) u (count + 1)) (st (p.Word w.N) u (count + 1)) 101 (110 ∷ rest) refl
      (lead n (st (p.Word w.N) u (count + 1)) (st p.Spelled u (count + 1)) 110 rest refl more))

  -- the first letter of an operator
  first_letter : (c : ℕ) (kind : Kind) (s : State) (text : List ℕ) → is_name_start c ≡ true → is_operator kind ≡ true → next at kind ≡ Some u
      → word_begins at count c ≡ Ok s → Leads n s text → Leads n (st p.Ready at count) (c ∷ text)
  first_letter c kind s text starts operator goes begins more =
      lead n (st p.Ready at count) s c text
      (ap (λ cl. begin_by cl at count c) (class_letter c starts)
      ∙ (ap (λ o. letter_begins at count c o) (no_name at.mark at.opened kind u operator goes) ∙ begins)) more

  begins_word : (c : ℕ) (kind : Kind) (word : Word) → is_name_start c ≡ true → is_operator kind ≡ true → next at kind ≡ Some u
      → word_begins at count c ≡ begin (p.Word word) count (next at kind) → Stops is_name_char rest → More
      → Leads n (st p.Ready at count) (c ∷ (letters word ++ rest))
  begins_word c kind word starts operator goes begins stops more =
      first_letter c kind (st (p.Word word) u (count + 1)) (letters word ++ rest) starts operator goes
      (begins ∙ ap (λ o. on (p.Word word) (count + 1) o) goes) (letters_lead word (spelled_out stops more))

  begins_order : (c d : ℕ) → is_name_start c ≡ true → next at k.Comparison ≡ Some u → word_begins at count c ≡ begin p.Order count (next at k.Comparison)
      → (d == 116 || d == 101) ≡ true → Stops is_name_char rest → More → Leads n (st p.Ready at count) (c ∷ d ∷ rest)
  begins_order c d starts goes begins second stops more =
      first_letter c k.Comparison (st p.Order u (count + 1)) (d ∷ rest) starts refl goes (begins ∙ ap (λ o. on p.Order (count + 1) o) goes)
      (lead n (st p.Order u (count + 1)) (st p.Spelled u (count + 1)) d rest (take_then (d == 116 || d == 101) _ _ second) (spelled_out stops more))

-- letters, and what goes on in names
module _ where
  starts_97 : is_name_start 97 ≡ true
  unfolding is_name_start low_start_rows
  starts_97 = refl

  starts_100 : is_name_start 100 ≡ true
  unfolding is_name_start low_start_rows
  starts_100 = refl

  starts_101 : is_name_start 101 ≡ true
  unfolding is_name_start low_start_rows
  starts_101 = refl

  starts_103 : is_name_start 103 ≡ true
  unfolding is_name_start low_start_rows
  starts_103 = refl

  starts_105 : is_name_start 105 ≡ true
  unfolding is_name_start low_start_rows
  starts_105 = refl

  starts_108 : is_name_start 108 ≡ true
  unfolding is_name_start low_start_rows
  starts_108 = refl

  starts_109 : is_name_start 109 ≡ true
  unfolding is_name_start low_start_rows
  starts_109 = refl

  starts_110 : is_name_start 110 ≡ true
  unfolding is_name_start low_start_rows
  starts_110 = refl

  starts_111 : is_name_start 111 ≡ true
  unfolding is_name_start low_start_rows
  starts_111 = refl

  starts_116 : is_name_start 116 ≡ true
  unfolding is_name_start low_start_rows
  starts_116 = refl

  f_goes_on : is_name_char 102 ≡ true
  unfolding is_name_char low_name_rows low_start_rows
  f_goes_on = refl

  colon_ends : is_name_char 58 ≡ false
  unfolding is_name_char low_name_rows low_start_rows high_name_rows high_mark_rows high_start_rows
  colon_ends = refl

module _ (n : ℕ) (at u : At) (count : ℕ) (rest : List ℕ) where
  abbrev Then : Type 0
  Then = Leads n (st p.Ready u (count + 1)) rest

  abbrev Read : List ℕ → Type 0
  Read word = Leads n (st p.Ready at count) (word ++ rest)

  abbrev as_read : (word other : List ℕ) → word ≡ other → Read other → Read word
  as_read word other same read = subst Read (sym same) read

  equal_word : Stops is_name_char rest → next at k.Comparison ≡ Some u → Then → Read (101 ∷ 113 ∷ [])
  unfolding word_begins
  equal_word stops goes more =
      first_letter n at u count rest 101 k.Comparison (st p.Either at (count + 1)) (113 ∷ rest) starts_101 refl goes
      (ap (λ o. hold p.Either count at (or_at o (next at k.Else))) goes)
      (lead n (st p.Either at (count + 1)) (st p.Spelled u (count + 1)) 113 rest (ap (λ o. on p.Spelled (count + 1) o) goes) (spelled_out n at u count rest stops more))

  or_known : {A : Type 0} (a b : Option A) → IsSome b → IsSome a ⊎ IsSome b
  or_known a b is = inr is

  else_word : Stops is_name_char rest → next at k.Else ≡ Some u → Then → Read (101 ∷ 108 ∷ 115 ∷ 101 ∷ [])
  unfolding word_begins
  else_word stops goes more =
      first_letter n at u count rest 101 k.Else (st p.Either at (count + 1)) (108 ∷ 115 ∷ 101 ∷ rest) starts_101 refl goes
      (held (next at k.Comparison) (next at k.Else) goes)
      (lead n (st p.Either at (count + 1)) (st (p.Word w.Se) u (count + 1)) 108 (115 ∷ 101 ∷ rest) (ap (λ o. on (p.Word w.Se) (count + 1) o) goes)
      (letters_lead n at u count rest w.Se (spelled_out n at u count rest stops more)))
    where
      held : (a b : Option At) → b ≡ Some u → hold p.Either count at (or_at a b) ≡ Ok (st p.Either at (count + 1))
      held None b is = ap (λ o. hold p.Either count at o) is
      held (Some t) b is = refl

  words_lead : (kind : Kind) (word : List ℕ) → IsOneOf (words kind) word → Stops is_name_char rest → is_operator kind ≡ true → next at kind ≡ Some u → Then → Read word
  unfolding word_begins
  words_lead k.Calculation word (inl same) stops operator goes more = as_read word _ same (begins_word n at u count rest 100 k.Calculation w.Iv starts_100 refl goes refl stops more)
  words_lead k.Calculation word (inr (inl same)) stops operator goes more = as_read word _ same (begins_word n at u count rest 105 k.Calculation w.Div starts_105 refl goes refl stops more)
  words_lead k.Calculation word (inr (inr (inl same))) stops operator goes more = as_read word _ same (begins_word n at u count rest 109 k.Calculation w.Od starts_109 refl goes refl stops more)
  words_lead k.Calculation word (inr (inr (inr never))) stops operator goes more = absurd never
  words_lead k.Comparison word (inl same) stops operator goes more = as_read word _ same (equal_word stops goes more)
  words_lead k.Comparison word (inr (inl same)) stops operator goes more = as_read word _ same (begins_word n at u count rest 110 k.Comparison w.E starts_110 refl goes refl stops more)
  words_lead k.Comparison word (inr (inr (inl same))) stops operator goes more = as_read word _ same (begins_order n at u count rest 108 116 starts_108 goes refl refl stops more)
  words_lead k.Comparison word (inr (inr (inr (inl same)))) stops operator goes more = as_read word _ same (begins_order n at u count rest 108 101 starts_108 goes refl refl stops more)
  words_lead k.Comparison word (inr (inr (inr (inr (inl same))))) stops operator goes more = as_read word _ same (begins_order n at u count rest 103 116 starts_103 goes refl refl stops more)
  words_lead k.Comparison word (inr (inr (inr (inr (inr (inl same)))))) stops operator goes more = as_read word _ same (begins_order n at u count rest 103 101 starts_103 goes refl refl stops more)
  words_lead k.Comparison word (inr (inr (inr (inr (inr (inr never)))))) stops operator goes more = absurd never
  words_lead k.Junction word (inl same) stops operator goes more = as_read word _ same (begins_word n at u count rest 97 k.Junction w.Nd starts_97 refl goes refl stops more)
  words_lead k.Junction word (inr (inl same)) stops operator goes more = as_read word _ same (begins_word n at u count rest 111 k.Junction w.R starts_111 refl goes refl stops more)
  words_lead k.Junction word (inr (inr never)) stops operator goes more = absurd never
  words_lead k.Then word (inl same) stops operator goes more = as_read word _ same (begins_word n at u count rest 116 k.Then w.Hen starts_116 refl goes refl stops more)
  words_lead k.Then word (inr never) stops operator goes more = absurd never
  words_lead k.Else word (inl same) stops operator goes more = as_read word _ same (else_word stops goes more)
  words_lead k.Else word (inr never) stops operator goes more = absurd never
  words_lead _ word is stops operator goes more = absurd (cc)

  signs_lead : (kind : Kind) (word : List ℕ) → IsOneOf (signs kind) word → next at kind ≡ Some u → Then → Read word
  signs_lead k.Dollar word (inl same) goes more = as_read word _ same (sign n at u count rest 36 k.Dollar class_36 goes more)
  signs_lead k.Dollar word (inr never) goes more = absurd never
  signs_lead k.Slash word (inl same) goes more = as_read word _ same (sign n at u count rest 47 k.Slash class_47 goes more)
  signs_lead k.Slash word (inr never) goes more = absurd never
  signs_lead k.Dot word (inl same) goes more = as_read word _ same (dots n at u count rest goes more)
  signs_lead k.Dot word (inr never) goes more = absurd never
  signs_lead k.Open word (inl same) goes more = as_read word _ same (sign n at u count rest 40 k.Open class_40 goes more)
  signs_lead k.Open word (inr never) goes more = absurd never
  signs_lead k.Close word (inl same) goes more = as_read word _ same (sign n at u count rest 41 k.Close class_41 goes more)
  signs_lead k.Close word (inr never) goes more = absurd never
  signs_lead k.Comma word (inl same) goes more = as_read word _ same (sign n at u count rest 44 k.Comma class_44 goes more)
  signs_lead k.Comma word (inr never) goes more = absurd never
  signs_lead k.OpenIndex word (inl same) goes more = as_read word _ same (sign n at u count rest 91 k.OpenIndex class_91 goes more)
  signs_lead k.OpenIndex word (inr never) goes more = absurd never
  signs_lead k.CloseIndex word (inl same) goes more = as_read word _ same (sign n at u count rest 93 k.CloseIndex class_93 goes more)
  signs_lead k.CloseIndex word (inr never) goes more = absurd never
  signs_lead k.Minus word (inl same) goes more = as_read word _ same (sign n at u count rest 45 k.Minus class_45 goes more)
  signs_lead k.Minus word (inr never) goes more = absurd never
  signs_lead k.Calculation word (inl same) goes more = as_read word _ same (sign n at u count rest 43 k.Calculation class_43 goes more)
  signs_lead k.Calculation word (inr (inl same)) goes more = as_read word _ same (sign n at u count rest 42 k.Calculation class_42 goes more)
  signs_lead k.Calculation word (inr (inr never)) goes more = absurd never
  signs_lead k.Comparison word (inl same) goes more = as_read word _ same (sign n at u count rest 61 k.Comparison class_61 goes more)
  signs_lead k.Comparison word (inr (inl same)) goes more = as_read word _ same (differs n at u count rest goes more)
  signs_lead k.Comparison word (inr (inr (inl same))) goes more = as_read word _ same (equals n at u count rest 60 class_60 goes more)
  signs_lead k.Comparison word (inr (inr (inr (inl same)))) goes more = as_read word _ same (equals n at u count rest 62 class_62 goes more)
  signs_lead k.Comparison word (inr (inr (inr (inr never)))) goes more = absurd never
  signs_lead _ word is goes more = absurd is

  angles_lead : (c : ℕ) → (c == 60 || c == 62) ≡ true → Stops is_equals rest → next at k.Comparison ≡ Some u → Then → Read (c ∷ [])
  angles_lead c is stops goes more = elim (cases_Bool (c == 60)) [
    | inl e ↦ subst (λ x. Read (x ∷ [])) (sym (eqb-true c 60 e)) (angle n at u count rest 60 class_60 goes stops more)
    | inr e ↦ subst (λ x. Read (x ∷ [])) (sym (eqb-true c 62 (subst (λ b. (b || c == 62) ≡ true) e is))) (angle n at u count rest 62 class_62 goes stops more)
  ]

-- digits to their end
digits_lead : (n : ℕ) (u : At) (count : ℕ) (rest : List ℕ) (pointed : Bool) (word : List ℕ) → IsDigits pointed word → Stops sticks rest
    → Leads n (st p.Ready u count) rest → Leads n (st (p.Digits pointed) u count) (word ++ rest)
digits_lead n u count rest pointed [] digits stops more =
    release n sticks (st (p.Digits pointed) u count) (st p.Ready u count) rest (λ e. e) refl
    (λ d e. inl (let (first, others) = or_parts (is_digit d) (d == 46 || is_name_start d) e in
    let (second, third) = or_parts (d == 46) (is_name_start d) others in
    skip (is_digit d) _ _ first ∙ (skip (d == 46) _ _ second ∙ skip (is_name_start d) _ _ third))) stops more
digits_lead n u count rest false (c ∷ word) (inl (is, digits)) stops more =
    lead n (st (p.Digits false) u count) (st (p.Digits false) u count) c (word ++ rest) (take_then (is_digit c) _ _ is) (digits_lead n u count rest false word digits stops more)
digits_lead n u count rest false (c ∷ word) (inr (same, digits)) stops more =
    subst (λ x. Leads n (st (p.Digits false) u count) (x ∷ (word ++ rest))) (sym same)
    (lead n (st (p.Digits false) u count) (st (p.Digits true) u count) 46 (word ++ rest) refl (digits_lead n u count rest true word digits stops more))
digits_lead n u count rest true (c ∷ word) (is, digits) stops more =
    lead n (st (p.Digits true) u count) (st (p.Digits true) u count) c (word ++ rest) (take_then (is_digit c) _ _ is) (digits_lead n u count rest true word digits stops more)

no_point : (d : ℕ) → is_digit d ≡ true → (d == 46) ≡ false
no_point d is = grind (arith, nat_tests, is)

number_lead : (n : ℕ) (at u : At) (count : ℕ) (rest word : List ℕ) → IsNumber word → Stops sticks rest → next at k.Literal ≡ Some u
    → Leads n (st p.Ready u (count + 1)) rest → Leads n (st p.Ready at count) (word ++ rest)
number_lead n at u count rest [] number stops goes more = absurd number
number_lead n at u count rest (c ∷ word) (inl (is, digits)) stops goes more =
    lead n (st p.Ready at count) (st (p.Digits false) u (count + 1)) c (word ++ rest)
    (ap (λ cl. begin_by cl at count c) (class_digit c is) ∙ ap (λ o. on (p.Digits false) (count + 1) o) goes)
    (digits_lead n u (count + 1) rest false word digits stops more)
number_lead n at u count rest (c ∷ []) (inr (same, never)) stops goes more = absurd never
number_lead n at u count rest (c ∷ d ∷ word) (inr (same, (is, digits))) stops goes more =
    let (t, dot) = known_some (next at k.Dot) (dot_for_literal at.mark at.opened u goes) in
    subst (λ x. Leads n (st p.Ready at count) (x ∷ d ∷ (word ++ rest))) (sym same)
    (lead n (st p.Ready at count) (st p.Point at (count + 1)) 46 (d ∷ (word ++ rest))
    (ap (λ cl. begin_by cl at count 46) class_46 ∙ ap (λ o. hold p.Point count at o) dot)
    (lead n (st p.Point at (count + 1)) (st (p.Digits true) u (count + 1)) d (word ++ rest)
    (skip (d == 46) _ _ (no_point d is) ∙ (take_then (is_digit d) _ _ is ∙ ap (λ o. on (p.Digits true) (count + 1) o) goes))
    (digits_lead n u (count + 1) rest true word digits stops more)))

-- a text to its end
quoted_lead : (n : ℕ) (u : At) (count : ℕ) (rest : List ℕ) (quote : Quote) (word : List ℕ) → IsQuoted (mark_of quote) word
    → Stops (λ c. c == mark_of quote) rest → Leads n (st p.Ready u count) rest → Leads n (st (p.Text quote) u count) (word ++ rest)
quoted_lead n u count rest quote [] quoted stops more = absurd quoted
quoted_lead n u count rest quote (c ∷ []) same stops more =
    lead n (st (p.Text quote) u count) (st (p.Quoted quote) u count) c rest (ap (λ x. Ok (st x u count)) (take_then (c == mark_of quote) (p.Quoted quote) (p.Text quote) (eq-eqb c (mark_of quote) same)))
    (release n (λ c. c == mark_of quote) (st (p.Quoted quote) u count) (st p.Ready u count) rest (λ e. e) refl (λ d e. inl (skip (d == mark_of quote) _ _ e)) stops more)
quoted_lead n u count rest quote (c ∷ d ∷ word) (inl (is, quoted)) stops more =
    lead n (st (p.Text quote) u count) (st (p.Text quote) u count) c (d ∷ (word ++ rest)) (ap (λ x. Ok (st x u count)) (skip (c == mark_of quote) (p.Quoted quote) (p.Text quote) is))
    (quoted_lead n u count rest quote (d ∷ word) quoted stops more)
quoted_lead n u count rest quote (c ∷ d ∷ word) (inr (same, again, quoted)) stops more =
    lead n (st (p.Text quote) u count) (st (p.Quoted quote) u count) c (d ∷ (word ++ rest)) (ap (λ x. Ok (st x u count)) (take_then (c == mark_of quote) (p.Quoted quote) (p.Text quote) (eq-eqb c (mark_of quote) same)))
    (lead n (st (p.Quoted quote) u count) (st (p.Text quote) u count) d (word ++ rest) (take_then (d == mark_of quote) _ _ (eq-eqb d (mark_of quote) again))
    (quoted_lead n u count rest quote word quoted stops more))

quote_known : (quote : ℕ) → is_quote quote ≡ true → (q : Quote) × (quote ≡ mark_of q) × (class_of quote ≡ class.Quote q)
quote_known quote is = elim (cases_Bool (quote == 39)) [
  | inl e ↦ (Single, eqb-true quote 39 e, ap class_of (eqb-true quote 39 e) ∙ class_39)
  | inr e ↦ (let same : quote ≡ 34 = eqb-true quote 34 (subst (λ b. (b || quote == 34) ≡ true) e is) in (Double, same, ap class_of same ∙ class_34))
]

text_lead : (n : ℕ) (at u : At) (count : ℕ) (rest : List ℕ) (quote : ℕ) (word : List ℕ) → is_quote quote ≡ true → IsQuoted quote word
    → Stops (λ c. c == quote) rest → next at k.Literal ≡ Some u → Leads n (st p.Ready u (count + 1)) rest → Leads n (st p.Ready at count) (quote ∷ (word ++ rest))
text_lead n at u count rest quote word is quoted stops goes more =
    let (q, same, known) = quote_known quote is in
    lead n (st p.Ready at count) (st (p.Text q) u (count + 1)) quote (word ++ rest)
    (ap (λ cl. begin_by cl at count quote) known ∙ ap (λ o. on (p.Text q) (count + 1) o) goes)
    (quoted_lead n u (count + 1) rest q word (subst (λ x. IsQuoted x word) same quoted) (subst (λ x. Stops (λ c. c == x) rest) same stops) more)

-- where in a name without a colon its last character stands
abbrev stage_of : List ℕ → Stage
stage_of (c ∷ []) = if c == 105 then AfterI else First
stage_of (c ∷ d ∷ []) = if c == 105 && d == 102 then AfterIf else First
stage_of _ = First

-- a name goes on by this character
stage_second : (i : Bool) (d : ℕ) → is_name_char d ≡ true → stage_next (if i then AfterI else First) d ≡ Some (if i && d == 102 then AfterIf else First)
unfolding stage_next
stage_second true d is = elim (d == 102) as (λ b. (if b then Some AfterIf else (if is_name_char d then Some First else (if d == 58 then Some Colon else None))) ≡ Some (if b then AfterIf else First)) [
  | true ↦ refl
  | false ↦ take_then (is_name_char d) (Some First) _ is
]
stage_second false d is = take_then (is_name_char d) (Some First) _ is

stage_third : (b : Bool) (d : ℕ) → is_name_char d ≡ true → stage_next (if b then AfterIf else First) d ≡ Some First
unfolding stage_next
stage_third true d is = take_then (is_name_char d) (Some First) _ is
stage_third false d is = take_then (is_name_char d) (Some First) _ is

stage_more : (d : ℕ) → is_name_char d ≡ true → stage_next First d ≡ Some First
stage_more d is = stage_third false d is

second_more : (d : ℕ) → is_name_char d ≡ true → stage_next Second d ≡ Some Second
unfolding stage_next
second_more d is = take_then (is_name_char d) (Some Second) None is

pub second_begins : (d : ℕ) → is_name_start d ≡ true → stage_next Colon d ≡ Some Second
unfolding stage_next
second_begins d is = take_then (is_name_start d) (Some Second) None is

-- a colon behind a name without one
i_colon : (b : Bool) → stage_next (if b then AfterI else First) 58 ≡ Some Colon
unfolding stage_next
i_colon true = skip (is_name_char 58) (Some First) (Some Colon) colon_ends
i_colon false = skip (is_name_char 58) (Some First) (Some Colon) colon_ends

if_colon : (b : Bool) → stage_next (if b then AfterIf else First) 58 ≡ Some Colon
unfolding stage_next
if_colon true = skip (is_name_char 58) (Some First) (Some Colon) colon_ends
if_colon false = skip (is_name_char 58) (Some First) (Some Colon) colon_ends

colon_next : (word : List ℕ) → stage_next (stage_of word) 58 ≡ Some Colon
colon_next [] = if_colon false
colon_next (c ∷ []) = i_colon (c == 105)
colon_next (c ∷ d ∷ []) = if_colon (c == 105 && d == 102)
colon_next (c ∷ d ∷ e ∷ word) = if_colon false

not_f : (c : ℕ) → is_name_char c ≡ false → (c == 102) ≡ false
not_f c is = elim (cases_Bool (c == 102)) [
  | inl e ↦ absurd (let never : is_name_char 102 ≡ false = subst (λ x. is_name_char x ≡ false) (eqb-true c 102 e) is in let known = f_goes_on in cc)
  | inr e ↦ e
]

-- a name that ends does not go on
pub stops_there : (stage : Stage) (c : ℕ) → is_name_char c ≡ false → (c == 58) ≡ false → (stage ≡ Colon → ⊥) → stage_next stage c ≡ None
unfolding stage_next
stops_there Colon c is apart other = absurd (other refl)
stops_there Second c is apart other = skip (is_name_char c) (Some Second) None is
stops_there First c is apart other = skip (is_name_char c) (Some First) _ is ∙ skip (c == 58) (Some Colon) None apart
stops_there AfterIf c is apart other = skip (is_name_char c) (Some First) _ is ∙ skip (c == 58) (Some Colon) None apart
stops_there AfterI c is apart other = skip (c == 102) (Some AfterIf) _ (not_f c is) ∙ (skip (is_name_char c) (Some First) _ is ∙ skip (c == 58) (Some Colon) None apart)

not_colon : (at u : At) (stage : Stage) → named_at at stage ≡ Some u → stage ≡ Colon → ⊥
not_colon at u stage goes same = let never : named_at at Colon ≡ Some u = subst (λ s. named_at at s ≡ Some u) same goes in cc

-- a name to its end
module _ (n : ℕ) (at u : At) (count : ℕ) (rest : List ℕ) where
  name_out : (stage : Stage) → named_at at stage ≡ Some u → Stops is_name_char rest → Leads n (st p.Ready u count) rest → Leads n (st (p.Named stage) at count) rest
  name_out stage goes stops more =
      release n is_name_char (st (p.Named stage) at count) (st p.Ready u count) rest (λ e. ap may_end_if goes ∙ e) refl
      (λ c is. elim (cases_Bool (c == 58)) [
        | inl e ↦ inr (ap (λ x. begin_at u count x) (eqb-true c 58 e) ∙ ap (λ cl. begin_by cl u count 58) class_58)
        | inr e ↦ inl (ap (λ o. name_step o stage at count c) (stops_there stage c is e (not_colon at u stage goes)) ∙ ap (λ o. end_before o count c) goes)
      ]) stops more

  goes_named : (stage other : Stage) (c : ℕ) (text : List ℕ) → stage_next stage c ≡ Some other → Leads n (st (p.Named other) at count) text
      → Leads n (st (p.Named stage) at count) (c ∷ text)
  goes_named stage other c text is more = lead n (st (p.Named stage) at count) (st (p.Named other) at count) c text (ap (λ o. name_step o stage at count c) is) more

  firsts : (word : List ℕ) → AllPass is_name_char word → (text : List ℕ) → Leads n (st (p.Named First) at count) text → Leads n (st (p.Named First) at count) (word ++ text)
  firsts [] all text more = more
  firsts (c ∷ word) all text more = goes_named First First c (word ++ text) (stage_more c all.0) (firsts word all.1 text more)

  seconds : (word : List ℕ) → AllPass is_name_char word → (text : List ℕ) → Leads n (st (p.Named Second) at count) text → Leads n (st (p.Named Second) at count) (word ++ text)
  seconds [] all text more = more
  seconds (c ∷ word) all text more = goes_named Second Second c (word ++ text) (second_more c all.0) (seconds word all.1 text more)

-- a name without a colon, from its begin
part_lead : (n : ℕ) (at : At) (count : ℕ) (word text : List ℕ) → IsPart word → IsSome (next at k.Name)
    → Leads n (st (p.Named (stage_of word)) at (count + 1)) text → Leads n (st p.Ready at count) (word ++ text)
part_lead n at count [] text part some more = absurd part
part_lead n at count (c ∷ word) text part some more =
    let (t, goes) = known_some (next at k.Name) some in
    lead n (st p.Ready at count) (st (p.Named (if c == 105 then AfterI else First)) at (count + 1)) c (word ++ text)
    (ap (λ cl. begin_by cl at count c) (class_letter c part.0) ∙ ap (λ o. letter_begins at count c o) goes)
    (others word part.1 more)
  where
    others : (word : List ℕ) → AllPass is_name_char word → Leads n (st (p.Named (stage_of (c ∷ word))) at (count + 1)) text
        → Leads n (st (p.Named (if c == 105 then AfterI else First)) at (count + 1)) (word ++ text)
    others [] all more = more
    others (d ∷ []) all more = goes_named n at at (count + 1) [] (if c == 105 then AfterI else First) (if c == 105 && d == 102 then AfterIf else First) d text (stage_second (c == 105) d all.0) more
    others (d ∷ e ∷ word) all more =
        goes_named n at at (count + 1) [] (if c == 105 then AfterI else First) (if c == 105 && d == 102 then AfterIf else First) d (e ∷ (word ++ text)) (stage_second (c == 105) d all.0)
        (goes_named n at at (count + 1) [] (if c == 105 && d == 102 then AfterIf else First) First e (word ++ text) (stage_third (c == 105 && d == 102) e all.1.0)
        (firsts n at at (count + 1) [] word all.1.1 text more))

-- a name that isn't `if` is told as a name
named_name : (at : At) (word : List ℕ) → is_if word ≡ false → named_at at (stage_of word) ≡ next at k.Name
named_name at [] is = refl
named_name at (c ∷ []) is = elim (c == 105) as (λ b. named_at at (if b then AfterI else First) ≡ next at k.Name) [ true ↦ refl | false ↦ refl ]
named_name at (c ∷ d ∷ []) is = ap (λ b. named_at at (if b then AfterIf else First)) is
named_name at (c ∷ d ∷ e ∷ word) is = refl

some_of : {A : Type 0} (o : Option A) (a : A) → o ≡ Some a → IsSome o
some_of o a is = subst (λ x. IsSome x) (sym is) refl

name_lead : (n : ℕ) (at u : At) (count : ℕ) (rest word : List ℕ) → IsName word → is_if word ≡ false → Stops is_name_char rest → next at k.Name ≡ Some u
    → Leads n (st p.Ready u (count + 1)) rest → Leads n (st p.Ready at count) (word ++ rest)
name_lead n at u count rest word (inl part) is stops goes more =
    part_lead n at count word rest part (some_of (next at k.Name) u goes)
    (name_out n at u (count + 1) rest (stage_of word) (named_name at word is ∙ goes) stops more)
name_lead n at u count rest word (inr name) is stops goes more =
    subst (λ l. Leads n (st p.Ready at count) (l ++ rest)) (sym name.spelled)
    (subst (λ l. Leads n (st p.Ready at count) l) (sym (append_assoc name.prefix (58 ∷ name.part) rest))
    (part_lead n at count name.prefix (58 ∷ (name.part ++ rest)) name.is_prefix (some_of (next at k.Name) u goes)
    (goes_named n at at (count + 1) [] (stage_of name.prefix) Colon 58 (name.part ++ rest) (colon_next name.prefix) (behind name.part name.is_part))))
  where
    behind : (part : List ℕ) → IsPart part → Leads n (st (p.Named Colon) at (count + 1)) (part ++ rest)
    behind [] part = absurd part
    behind (c ∷ others) part =
        goes_named n at at (count + 1) [] Colon Second c (others ++ rest) (second_begins c part.0)
        (seconds n at at (count + 1) [] others part.1 rest (name_out n at u (count + 1) rest Second goes stops more))

if_lead : (n : ℕ) (at u : At) (count : ℕ) (rest : List ℕ) → Stops is_name_char rest → next at k.If ≡ Some u
    → Leads n (st p.Ready u (count + 1)) rest → Leads n (st p.Ready at count) (105 ∷ 102 ∷ rest)
if_lead n at u count rest stops goes more =
    part_lead n at count (105 ∷ 102 ∷ []) rest (starts_105, (f_goes_on, tt)) (name_for_if at.mark at.opened u goes)
    (name_out n at u (count + 1) rest AfterIf goes stops more)

-- any token
token_lead : (n : ℕ) (at u : At) (count : ℕ) (rest : List ℕ) (kind : Kind) (word : List ℕ) → IsToken kind word rest → next at kind ≡ Some u
    → Leads n (st p.Ready u (count + 1)) rest → Leads n (st p.Ready at count) (word ++ rest)
token_lead n at u count _ _ _ (token.Sign kind word rest is) goes more = signs_lead n at u count rest kind word is goes more
token_lead n at u count _ _ _ (token.Word k.If word rest (inl same) stops) goes more =
    subst (λ l. Leads n (st p.Ready at count) (l ++ rest)) (sym same) (if_lead n at u count rest stops goes more)
token_lead n at u count _ _ _ (token.Word k.If word rest (inr never) stops) goes more = absurd never
token_lead n at u count _ _ _ (token.Word k.Calculation word rest is stops) goes more = words_lead n at u count rest k.Calculation word is stops refl goes more
token_lead n at u count _ _ _ (token.Word k.Comparison word rest is stops) goes more = words_lead n at u count rest k.Comparison word is stops refl goes more
token_lead n at u count _ _ _ (token.Word k.Junction word rest is stops) goes more = words_lead n at u count rest k.Junction word is stops refl goes more
token_lead n at u count _ _ _ (token.Word k.Then word rest is stops) goes more = words_lead n at u count rest k.Then word is stops refl goes more
token_lead n at u count _ _ _ (token.Word k.Else word rest is stops) goes more = words_lead n at u count rest k.Else word is stops refl goes more
token_lead n at u count _ _ _ (token.Word kind word rest is stops) goes more = absurd is
token_lead n at u count _ _ _ (token.Ordinary word rest name is stops) goes more = name_lead n at u count rest word name is stops goes more
token_lead n at u count _ _ _ (token.Number word rest number stops) goes more = number_lead n at u count rest word number stops goes more
token_lead n at u count _ _ _ (token.Quoted quote word rest is quoted stops) goes more = text_lead n at u count rest quote word is quoted stops goes more
token_lead n at u count _ _ _ (token.OneDot rest stops) goes more = one_dot n at u count rest goes stops more
token_lead n at u count _ _ _ (token.Angle c rest is stops) goes more = angles_lead n at u count rest c is stops goes more

whites_lead : (n : ℕ) (at : At) (count : ℕ) (space text : List ℕ) → AllPass is_white space → Leads n (st p.Ready at count) text → Leads n (st p.Ready at count) (space ++ text)
whites_lead n at count [] text all more = more
whites_lead n at count (c ∷ space) text all more =
    lead n (st p.Ready at count) (st p.Ready at count) c (space ++ text) (ap (λ cl. begin_by cl at count c) (class_white c all.0)) (whites_lead n at count space text all.1 more)

pub all_lead : (kinds : List Kind) (at t : At) (count : ℕ) (text : List ℕ) → Spelled kinds text → drive at kinds ≡ Some t → may_end t ≡ true
    → Leads (count + length kinds) (st p.Ready at count) text
all_lead [] at t count text spelled is ends =
    let same : at ≡ t = cc in
    subst (λ l. Leads (count + 0) (st p.Ready at count) l) (append-nil text)
    (whites_lead (count + 0) at count text [] spelled (record { last = st p.Ready at count; runs = refl; ends = subst (λ u. may_end u ≡ true) (sym same) ends; counted = omega arith }))
all_lead (kind ∷ kinds) at t count text (space, word, rest, same, white, token, spelled) is ends =
    option_and_then_some (λ u. drive u kinds) (next at kind) t is
    (λ u goes others.
    let total : (count + 1) + length kinds ≡ count + length (kind ∷ kinds) = omega arith in
    let more : Leads (count + length (kind ∷ kinds)) (st p.Ready u (count + 1)) rest =
    subst (λ n. Leads n (st p.Ready u (count + 1)) rest) total (all_lead kinds u t (count + 1) rest spelled others ends) in
    subst (λ l. Leads (count + length (kind ∷ kinds)) (st p.Ready at count) l) (sym same)
    (whites_lead (count + length (kind ∷ kinds)) at count space (word ++ rest) white (token_lead (count + length (kind ∷ kinds)) at u count rest kind word token goes more)))

-- each expression is run through and accepted, and the reader has counted its tokens then
pub expression_leads : (n : ℕ) (text : List ℕ) → Reads n text → Leads n start text
expression_leads n text reads =
    let (t, is, ends) = driven_through reads.expression in
    let total : 0 + length (spelling reads.expression) ≡ n = omega (arith, reads.counted) in
    subst (λ m. Leads m start text) total (all_lead (spelling reads.expression) start.at t 0 text reads.spelled is ends)
