-- Some characters may come at each state.
use Rattle.std.proofs.Common.{◌≡◌, ℕ, ◌==◌, ◌&&◌, ◌||◌, not, Bool, true, false, if◌then◌else◌, List, [], ◌∷◌, ◌++◌, ◌⊎◌, inl, inr, Option, Some, None, Result, Ok, Err, IfSome, IfOk, IsSome, refl, ap, sym, subst, ◌∙◌, append_assoc}
use Rattle.std.proofs.lemmas.Bool.{cond_both, eqb-true, cases_Bool}
use Rattle.std.proofs.lemmas.List.{append-nil}
use Rattle.dfdl_layers.specs.Tellers.{Each}
use Rattle.dfdl_layers.proofs.Runs.{each-append}
use Rattle.dfdl_xml_chars.specs.Characters.{is_name_start, is_name_char}
use Rattle.dfdl_expression_text.specs.declared.kind.Kind.{Kind}
use Rattle.dfdl_expression_text.specs.declared.kind.Kind.TheVariants as k
use Rattle.dfdl_expression_text.specs.declared.piece.Stage.{Stage}
use Rattle.dfdl_expression_text.specs.declared.piece.Stage.TheVariants.{AfterI, AfterIf, First, Colon, Second}
use Rattle.dfdl_expression_text.specs.declared.piece.Word.{Word}
use Rattle.dfdl_expression_text.specs.declared.piece.Word.TheVariants as w
use Rattle.dfdl_expression_text.specs.declared.piece.Quote.{Quote}
use Rattle.dfdl_expression_text.specs.declared.piece.Quote.TheVariants.{Single, Double}
use Rattle.dfdl_expression_text.specs.declared.piece.Piece.{Piece}
use Rattle.dfdl_expression_text.specs.declared.piece.Piece.TheVariants as p
use Rattle.dfdl_expression_text.specs.declared.piece.Class.{Class}
use Rattle.dfdl_expression_text.specs.declared.piece.Class.TheVariants as class
use Rattle.dfdl_expression_text.specs.Tokens.{is_white, is_digit, is_quote, AllPass, Stops, IsPart, IsPrefixed, IsName, is_if, IsDigits, IsNumber, IsQuoted}
use Rattle.dfdl_expression_text.specs.Tokens.{signs, words, IsOneOf, sticks, IsToken, Spelled}
use Rattle.dfdl_expression_text.specs.Tokens as token
use Rattle.dfdl_expression_text.specs.Machine.{At, next, may_end, may_end_if, class_of, mark_of, State, on, begin, hold, or_at, word_begins, letter_begins}
use Rattle.dfdl_expression_text.specs.Machine.{begin_by, begin_at, end_before, stage_next, named_at, name_step, word_next, step_piece, step, accepts, accepts_piece}
use Rattle.dfdl_expression_text.proofs.Comes.{Comes, back_at, ends_at_last}
use Rattle.std.proofs.Common.{nat_le, nat_lt, ◌≤◌, ◌<◌, arith}
use Rattle.std.specs.List.{list_all}
use Rattle.std.specs.Char.{IsScalar}
use Rattle.std.proofs.lemmas.Bool.{and_parts}
use Rattle.std.proofs.lemmas.Bool.Decides.{nat_tests}
use Rattle.dfdl_layers.specs.Allowed.{GoodAllowed}
use Rattle.dfdl_xml_chars.specs.Characters.{is_allowed, char_rows, low_start_rows, low_name_rows, high_name_rows, high_start_rows, high_mark_rows}
use Rattle.dfdl_expression_text.specs.declared.mark.Mark.{Mark}
use Rattle.dfdl_expression_text.specs.declared.mark.Mark.TheVariants as m
use Rattle.dfdl_expression_text.specs.declared.mark.Frame.{Frame}
use Rattle.dfdl_expression_text.specs.Machine.{act}
use Rattle.std.proofs.Common.{◌+◌, is_some, drop, length}
use Rattle.dfdl_layers.specs.Tellers.{run, go_on}
use Rattle.dfdl_expression_text.specs.Limit.{owed_all, owed_mark, owed, passed, beside, left_open, least}
use Rattle.dfdl_expression_text.proofs.Least.{least_at, Least, Ends}
use Rattle.dfdl_expression_text.proofs.Rises.{owes_to, named_to, else_to, comparison_to}
use Rattle.dfdl_expression_text.proofs.Runs.{Leads, all_lead, st, skip, class_white, stops_there, second_begins}
use Rattle.dfdl_expression_text.proofs.Texts.{MayCome, at_option, as_text, feed, Wrote, letters, is_equals, Free, Equals, InQuotes, RestAt, RestOf, some_known}
use Rattle.dfdl_expression_text.proofs.Steps.{named}

-- a character that is given
abbrev pub Good : ℕ → Type 0
Good c = GoodAllowed is_allowed IsScalar c

good_low : (c : ℕ) → 32 ≤ c → c < 128 → Good c
unfolding is_allowed char_rows
good_low c least less = (grind (arith, nat_tests), grind (arith, nat_tests))

pub good_text : (text : List ℕ) → list_all (λ c. nat_le 32 c && nat_lt c 128) text ≡ true → Each Good text
good_text [] all = tt
good_text (c ∷ text) all =
    let both = and_parts (nat_le 32 c && nat_lt c 128) (list_all (λ d. nat_le 32 d && nat_lt d 128) text) all in
    (good_between c both.0, good_text text both.1)
  where
    good_between : (d : ℕ) → (nat_le 32 d && nat_lt d 128) ≡ true → Good d
    good_between d is = good_low d (grind (arith, nat_tests)) (grind (arith, nat_tests))

-- no name goes on by a space, and no number
no_name_space : is_name_char 32 ≡ false
unfolding is_name_char low_name_rows low_start_rows high_name_rows high_mark_rows high_start_rows
no_name_space = refl

no_start_space : is_name_start 32 ≡ false
unfolding is_name_start low_start_rows high_start_rows
no_start_space = refl

no_stick_space : sticks 32 ≡ false
no_stick_space = no_start_space

a_starts : is_name_start 97 ≡ true
unfolding is_name_start low_start_rows
a_starts = refl

-- a token of this kind with a space before it
record Sample (kind : Kind) : Type 0 where
  word : List ℕ
  good : Each Good word
  is : (rest : List ℕ) → ((test : ℕ → Bool) → test 32 ≡ false → Stops test rest) → IsToken kind word rest

sample : (kind : Kind) → Sample kind
sample k.If = record { word = 105 ∷ 102 ∷ []; good = good_text (105 ∷ 102 ∷ []) refl; is = λ rest free. token.Word k.If (105 ∷ 102 ∷ []) rest (inl refl) (free is_name_char no_name_space) }
sample k.Name = record { word = 97 ∷ []; good = good_text (97 ∷ []) refl; is = λ rest free. token.Ordinary (97 ∷ []) rest (inl (a_starts, tt)) refl (free is_name_char no_name_space) }
sample k.Literal = record { word = 48 ∷ []; good = good_text (48 ∷ []) refl; is = λ rest free. token.Number (48 ∷ []) rest (inl (refl, tt)) (free sticks no_stick_space) }
sample k.Dollar = record { word = 36 ∷ []; good = good_text (36 ∷ []) refl; is = λ rest free. token.Sign k.Dollar (36 ∷ []) rest (inl refl) }
sample k.Slash = record { word = 47 ∷ []; good = good_text (47 ∷ []) refl; is = λ rest free. token.Sign k.Slash (47 ∷ []) rest (inl refl) }
sample k.Dot = record { word = 46 ∷ 46 ∷ []; good = good_text (46 ∷ 46 ∷ []) refl; is = λ rest free. token.Sign k.Dot (46 ∷ 46 ∷ []) rest (inl refl) }
sample k.Open = record { word = 40 ∷ []; good = good_text (40 ∷ []) refl; is = λ rest free. token.Sign k.Open (40 ∷ []) rest (inl refl) }
sample k.Close = record { word = 41 ∷ []; good = good_text (41 ∷ []) refl; is = λ rest free. token.Sign k.Close (41 ∷ []) rest (inl refl) }
sample k.Comma = record { word = 44 ∷ []; good = good_text (44 ∷ []) refl; is = λ rest free. token.Sign k.Comma (44 ∷ []) rest (inl refl) }
sample k.OpenIndex = record { word = 91 ∷ []; good = good_text (91 ∷ []) refl; is = λ rest free. token.Sign k.OpenIndex (91 ∷ []) rest (inl refl) }
sample k.CloseIndex = record { word = 93 ∷ []; good = good_text (93 ∷ []) refl; is = λ rest free. token.Sign k.CloseIndex (93 ∷ []) rest (inl refl) }
sample k.Minus = record { word = 45 ∷ []; good = good_text (45 ∷ []) refl; is = λ rest free. token.Sign k.Minus (45 ∷ []) rest (inl refl) }
sample k.Calculation = record { word = 43 ∷ []; good = good_text (43 ∷ []) refl; is = λ rest free. token.Sign k.Calculation (43 ∷ []) rest (inl refl) }
sample k.Comparison = record { word = 61 ∷ []; good = good_text (61 ∷ []) refl; is = λ rest free. token.Sign k.Comparison (61 ∷ []) rest (inl refl) }
sample k.Junction = record { word = 111 ∷ 114 ∷ []; good = good_text (111 ∷ 114 ∷ []) refl; is = λ rest free. token.Word k.Junction (111 ∷ 114 ∷ []) rest (inr (inl refl)) (free is_name_char no_name_space) }
sample k.Then = record { word = 116 ∷ 104 ∷ 101 ∷ 110 ∷ []; good = good_text (116 ∷ 104 ∷ 101 ∷ 110 ∷ []) refl; is = λ rest free. token.Word k.Then (116 ∷ 104 ∷ 101 ∷ 110 ∷ []) rest (inl refl) (free is_name_char no_name_space) }
sample k.Else = record { word = 101 ∷ 108 ∷ 115 ∷ 101 ∷ []; good = good_text (101 ∷ 108 ∷ 115 ∷ 101 ∷ []) refl; is = λ rest free. token.Word k.Else (101 ∷ 108 ∷ 115 ∷ 101 ∷ []) rest (inl refl) (free is_name_char no_name_space) }

-- tokens of these kinds, each with a space before it
record Samples (kinds : List Kind) : Type 0 where
  text : List ℕ
  good : Each Good text
  is : Spelled kinds text
  free : (test : ℕ → Bool) → test 32 ≡ false → Stops test text

samples : (kinds : List Kind) → Samples kinds
samples [] = record { text = []; good = tt; is = tt; free = λ test is. tt }
samples (kind ∷ kinds) =
    let s = sample kind in
    let more = samples kinds in
    record {
      text = 32 ∷ (s.word ++ more.text);
      good = (good_low 32 (omega arith) (omega arith), each-append Good s.word more.text s.good more.good);
      is = (32 ∷ [], s.word, more.text, refl, (refl, tt), s.is more.text more.free, more.is);
      free = λ test is. is;
    }

-- where the reader gets over the text, no more tokens have begun
abbrev pub Within : ℕ → State → List ℕ → Type 0
Within n s text = IfOk (run step s text) (λ t. t.count ≤ n)

pub leads_within : (n m : ℕ) (s : State) (text : List ℕ) → Leads m s text → m ≤ n → Within n s text
leads_within n m s text leads few =
    let counted = leads.counted in
    let last : leads.last.count ≤ n = omega arith in
    subst (λ r. IfOk r (λ t. t.count ≤ n)) (sym leads.runs) last

pub within_lead : (n : ℕ) (s t : State) (c : ℕ) (text : List ℕ) → step s c ≡ Ok t → Within n t text → Within n s (c ∷ text)
within_lead n s t c text is more = subst (λ r. IfOk (go_on (λ u. run step u text) r) (λ u. u.count ≤ n)) (sym is) more

white_ready : (at : At) (count : ℕ) → begin_at at count 32 ≡ Ok (st p.Ready at count)
white_ready at count = ap (λ cl. begin_by cl at count 32) (class_white 32 refl)

-- what comes behind a space, where the piece ends before one
space_within : (n : ℕ) (kinds : List Kind) (at : At) (s : State) → step s 32 ≡ Ok (st p.Ready at s.count) → s.count ≤ n
    → Within n (st p.Ready at s.count) (samples kinds).text → Within n s (samples kinds).text
unfolding samples
space_within n [] at s is few more = few
space_within n (kind ∷ kinds) at s is few more =
    let rest = (sample kind).word ++ (samples kinds).text in
    subst (λ r. IfOk (go_on (λ u. run step u rest) r) (λ u. u.count ≤ n)) (white_ready at s.count ∙ sym is) more

ready_within : (at : At) (l : Least at) (count : ℕ) → Within (count + owed at) (st p.Ready at count) (samples l.kinds).text
unfolding samples
ready_within at l count = elim l.ends as (λ e. Within (count + owed at) (st p.Ready at count) (samples l.kinds).text) [
  | inl nothing ↦ (let few : count ≤ count + owed at = omega arith in
      subst (λ kinds. Within (count + owed at) (st p.Ready at count) (samples kinds).text) (sym nothing) few)
  | inr ends ↦ (let few = l.few in
      let total : count + length l.kinds ≤ count + owed at = omega arith in
      leads_within (count + owed at) (count + length l.kinds) (st p.Ready at count) (samples l.kinds).text
      (all_lead l.kinds at ends.last count (samples l.kinds).text (samples l.kinds).is ends.driven ends.ends) total)
]

pub wider : (r : Result State ℕ) (n m : ℕ) → n ≤ m → IfOk r (λ t. t.count ≤ n) → IfOk r (λ t. t.count ≤ m)
wider (Ok t) n m more few = omega arith
wider (Err e) n m more few = tt

-- some characters that may come at a mark, which no token goes on by, of as few tokens as are owed there
record Coming (at : At) : Type 0 where
  text : List ℕ
  good : Each Good text
  come : MayCome at text
  free : (test : ℕ → Bool) → test 32 ≡ false → Stops test text
  within : (n : ℕ) (s : State) → step s 32 ≡ Ok (st p.Ready at s.count) → s.count + owed at ≤ n → Within n s text

coming : (at : At) → Coming at
coming at =
    let l = least_at at.mark at.opened in
    let s = samples l.kinds in
    record {
      text = s.text;
      good = s.good;
      come = (l.kinds, l.come, s.is);
      free = s.free;
      within = λ n u is few.
          let fewer : u.count ≤ u.count + owed at = omega arith in
          wider (run step u s.text) (u.count + owed at) n few (space_within (u.count + owed at) l.kinds at u is fewer (ready_within at l u.count));
    }

-- where a name may stand, `if` may
if_for_name : (mark : Mark) (fs : List Frame) → IsSome (next (record { mark = mark; opened = fs }) k.Name) → IsSome (next (record { mark = mark; opened = fs }) k.If)
unfolding act
if_for_name m.Begin fs some = refl
if_for_name m.Arguments fs some = refl
if_for_name (m.Operand b) fs some = refl
if_for_name (m.Positive b) fs some = refl
if_for_name (m.Variable b) fs some = refl
if_for_name (m.Step b) fs some = refl
if_for_name _ fs some = absurd (cc)

named_some : (at : At) (stage : Stage) → (stage ≡ Colon → ⊥) → IsSome (next at k.Name) → IsSome (named_at at stage)
named_some at AfterI other some = some
named_some at AfterIf other some = if_for_name at.mark at.opened some
named_some at First other some = some
named_some at Second other some = some
named_some at Colon other some = absurd (other refl)

-- some good characters that may come, of as few tokens as a state needs
abbrev pub Lives : Piece → At → Type 0
Lives piece at =
    (more : List ℕ) × Each Good more × RestAt piece at more × ((count : ℕ) → Within (least (st piece at count)) (st piece at count) more)

none_known : {A : Type 0} (o : Option A) → o ≡ None → IsSome o → ⊥
none_known None is known = cc
none_known (Some a) is known = cc

-- an operator that ends before a space
spelled_within : (at : At) (c : Coming at) (count n : ℕ) → count + owed at ≤ n → Within n (st p.Spelled at count) c.text
spelled_within at c count n few = c.within n (st p.Spelled at count) (skip (is_name_char 32) _ _ no_name_space ∙ white_ready at count) few

-- a name that does
named_within : (at t : At) (stage : Stage) → (stage ≡ Colon → ⊥) → named_at at stage ≡ Some t → (c : Coming t) (count : ℕ)
    → Within (least (st (p.Named stage) at count)) (st (p.Named stage) at count) c.text
named_within at t stage other goes c count =
    let owes = named_to stage at t goes in
    let few : count + owed t ≤ (count + 0) + owed_all at.opened = omega arith in
    c.within ((count + 0) + owed_all at.opened) (st (p.Named stage) at count)
    (ap (λ o. name_step o stage at count 32) (stops_there stage 32 no_name_space refl other) ∙ (ap (λ o. end_before o count 32) goes ∙ white_ready t count)) few

none_within : (piece : Piece) (at : At) (count : ℕ) → Within (least (st piece at count)) (st piece at count) []
none_within piece at count = omega arith

-- a name that may end here
name_lives : (stage : Stage) (at : At) → (stage ≡ Colon → ⊥) → Lives (p.Named stage) at
name_lives stage at other =
    at_option (named_at at stage) (λ o. Lives (p.Named stage) at)
    (λ none. ([], tt, (λ some. absurd (none_known (named_at at stage) none (named_some at stage other some))), none_within (p.Named stage) at))
    (λ t goes. let c = coming t in (
      c.text,
      c.good,
      (λ some word wrote. named at t stage word c.text wrote goes (c.free is_name_char no_name_space, c.come)),
      named_within at t stage other goes c,
    ))

colon_lives : (at : At) → Lives (p.Named Colon) at
colon_lives at =
    at_option (next at k.Name) (λ o. Lives (p.Named Colon) at)
    (λ none. ([], tt, (λ some. absurd (none_known (next at k.Name) none some)), none_within (p.Named Colon) at))
    (λ t goes. let c = coming t in (
      97 ∷ c.text,
      (good_low 97 (omega arith) (omega arith), c.good),
      (λ some word (part, is, same).
          as_text at (word ++ 97 ∷ c.text) ((part ++ 58 ∷ 97 ∷ []) ++ c.text)
          (ap (λ l. l ++ 97 ∷ c.text) same ∙ (append_assoc part (58 ∷ []) (97 ∷ c.text) ∙ sym (append_assoc part (58 ∷ 97 ∷ []) c.text)))
          (named at t Second (part ++ 58 ∷ 97 ∷ []) c.text (record { prefix = part; part = 97 ∷ []; spelled = refl; is_prefix = is; is_part = (a_starts, tt) }) goes
          (c.free is_name_char no_name_space, c.come))),
      λ count.
          within_lead (least (st (p.Named Colon) at count)) (st (p.Named Colon) at count) (st (p.Named Second) at count) 97 c.text
          (ap (λ o. name_step o Colon at count 97) (second_begins 97 a_starts)) (named_within at t Second (λ same. cc) goes c count),
    ))

point_lives : (at : At) → Lives p.Point at
point_lives at =
    at_option (next at k.Dot) (λ o. Lives p.Point at)
    (λ none. ([], tt, (λ some. absurd (none_known (next at k.Dot) none some)), none_within p.Point at))
    (λ t goes. let c = coming t in (
      c.text,
      c.good,
      (λ some. feed at t k.Dot (46 ∷ []) c.text goes (token.OneDot c.text (c.free (λ c. c == 46 || is_digit c) refl)) c.come),
      λ count.
          let owes = owes_to at t k.Dot refl goes in
          let few : count + owed t ≤ (count + 0) + owed_all at.opened = omega arith in
          c.within ((count + 0) + owed_all at.opened) (st p.Point at count) (ap (λ o. end_before o count 32) goes ∙ white_ready t count) few,
    ))

equal_lives : (at : At) → next at k.Else ≡ None → Lives p.Either at
equal_lives at before =
    at_option (next at k.Comparison) (λ o. Lives p.Either at)
    (λ none. ([], tt, (λ some. absurd (neither (next at k.Comparison) (next at k.Else) none before some)), none_within p.Either at))
    (λ t goes. let c = coming t in (
      113 ∷ c.text,
      (good_low 113 (omega arith) (omega arith), c.good),
      (λ some. feed at t k.Comparison (101 ∷ 113 ∷ []) c.text goes (token.Word k.Comparison (101 ∷ 113 ∷ []) c.text (inl refl) (c.free is_name_char no_name_space)) c.come),
      λ count.
          let owes = comparison_to at t goes in
          let same : least (st p.Either at count) ≡ (count + 1) + owed_all at.opened =
          ap (λ o. (count + 1) + owed_all (drop (passed (is_some o)) at.opened)) before
          in
          let few : count + owed t ≤ least (st p.Either at count) = omega arith in
          within_lead (least (st p.Either at count)) (st p.Either at count) (st p.Spelled t count) 113 c.text (ap (λ o. on p.Spelled count o) goes)
          (spelled_within t c count (least (st p.Either at count)) few),
    ))
  where
    neither : (a b : Option At) → a ≡ None → b ≡ None → IsSome (or_at a b) → ⊥
    neither None None first second some = cc
    neither (Some a) b first second some = cc
    neither None (Some b) first second some = cc

good_letters : (word : Word) → Each Good (letters word)
good_letters w.D = good_text (letters w.D) refl
good_letters w.Nd = good_text (letters w.Nd) refl
good_letters w.Od = good_text (letters w.Od) refl
good_letters w.V = good_text (letters w.V) refl
good_letters w.Iv = good_text (letters w.Iv) refl
good_letters w.Div = good_text (letters w.Div) refl
good_letters w.R = good_text (letters w.R) refl
good_letters w.E = good_text (letters w.E) refl
good_letters w.Se = good_text (letters w.Se) refl
good_letters w.N = good_text (letters w.N) refl
good_letters w.En = good_text (letters w.En) refl
good_letters w.Hen = good_text (letters w.Hen) refl

good_mark : (quote : Quote) → Good (mark_of quote)
good_mark Single = good_low 39 (omega arith) (omega arith)
good_mark Double = good_low 34 (omega arith) (omega arith)

space_apart : (quote : Quote) → (32 == mark_of quote) ≡ false
space_apart Single = refl
space_apart Double = refl

-- the letters of an operator
letters_within : (word : Word) (at : At) (count n : ℕ) (rest : List ℕ) → Within n (st p.Spelled at count) rest
    → Within n (st (p.Word word) at count) (letters word ++ rest)
letters_within w.D at count n rest more = more
letters_within w.V at count n rest more = more
letters_within w.R at count n rest more = more
letters_within w.E at count n rest more = more
letters_within w.N at count n rest more = more
letters_within w.Nd at count n rest more = more
letters_within w.Od at count n rest more = more
letters_within w.Iv at count n rest more = more
letters_within w.Div at count n rest more = more
letters_within w.Se at count n rest more = more
letters_within w.En at count n rest more = more
letters_within w.Hen at count n rest more = more

either_lives : (at : At) → Lives p.Either at
either_lives at =
    at_option (next at k.Else) (λ o. Lives p.Either at) (equal_lives at)
    (λ t goes. let c = coming t in (
      108 ∷ 115 ∷ 101 ∷ c.text,
      each-append Good (108 ∷ 115 ∷ 101 ∷ []) c.text (good_text (108 ∷ 115 ∷ 101 ∷ []) refl) c.good,
      (λ some. feed at t k.Else (101 ∷ 108 ∷ 115 ∷ 101 ∷ []) c.text goes (token.Word k.Else (101 ∷ 108 ∷ 115 ∷ 101 ∷ []) c.text (inl refl) (c.free is_name_char no_name_space)) c.come),
      λ count.
          let owes = else_to at t goes in
          let same : least (st p.Either at count) ≡ (count + 1) + owed_all (drop 1 at.opened) =
          ap (λ o. (count + 1) + owed_all (drop (passed (is_some o)) at.opened)) goes
          in
          let few : count + owed t ≤ least (st p.Either at count) = omega arith in
          within_lead (least (st p.Either at count)) (st p.Either at count) (st (p.Word w.Se) t count) 108 (115 ∷ 101 ∷ c.text)
          (ap (λ o. on (p.Word w.Se) count o) goes)
          (letters_within w.Se t count (least (st p.Either at count)) c.text (spelled_within t c count (least (st p.Either at count)) few)),
    ))

-- a text in quotes
text_within : (quote : Quote) (at : At) (c : Coming at) (count n : ℕ) → count + owed at ≤ n → Within n (st (p.Text quote) at count) (mark_of quote ∷ c.text)
text_within Single at c count n few = c.within n (st (p.Quoted Single) at count) (white_ready at count) few
text_within Double at c count n few = c.within n (st (p.Quoted Double) at count) (white_ready at count) few

quoted_within : (quote : Quote) (at : At) (c : Coming at) (count n : ℕ) → count + owed at ≤ n → Within n (st (p.Quoted quote) at count) c.text
quoted_within Single at c count n few = c.within n (st (p.Quoted Single) at count) (white_ready at count) few
quoted_within Double at c count n few = c.within n (st (p.Quoted Double) at count) (white_ready at count) few

digits_within : (pointed : Bool) (at : At) (c : Coming at) (count n : ℕ) → count + owed at ≤ n → Within n (st (p.Digits pointed) at count) c.text
digits_within pointed at c count n few =
    c.within n (st (p.Digits pointed) at count) (skip (is_name_start 32) _ _ no_start_space ∙ white_ready at count) few

-- the same sum
flat : (at : At) (count : ℕ) → count + owed at ≤ (count + owed_mark at.mark) + owed_all at.opened
flat at count = omega arith

pub lives : (piece : Piece) (at : At) → Lives piece at
lives p.Ready at = let c = coming at in (c.text, c.good, c.come, λ count. c.within _ (st p.Ready at count) (white_ready at count) (flat at count))
lives (p.Named AfterI) at = name_lives AfterI at (λ same. cc)
lives (p.Named AfterIf) at = name_lives AfterIf at (λ same. cc)
lives (p.Named First) at = name_lives First at (λ same. cc)
lives (p.Named Second) at = name_lives Second at (λ same. cc)
lives (p.Named Colon) at = colon_lives at
lives (p.Digits false) at = let c = coming at in
    (c.text, c.good, ([], c.text, refl, tt, (c.free sticks no_stick_space, c.come)), λ count. digits_within false at c count _ (flat at count))
lives (p.Digits true) at = let c = coming at in
    (c.text, c.good, ([], c.text, refl, tt, (c.free sticks no_stick_space, c.come)), λ count. digits_within true at c count _ (flat at count))
lives p.Point at = point_lives at
lives p.MayEqual at = let c = coming at in
    (c.text, c.good, inl (c.free is_equals refl, c.come), λ count. c.within _ (st p.MayEqual at count) (white_ready at count) (flat at count))
lives p.MustEqual at = let c = coming at in
    (61 ∷ c.text, (good_low 61 (omega arith) (omega arith), c.good), (c.text, refl, c.come), λ count. c.within _ (st p.Ready at count) (white_ready at count) (flat at count))
lives (p.Text quote) at = let c = coming at in (
  mark_of quote ∷ c.text,
  (good_mark quote, c.good),
  (mark_of quote ∷ [], c.text, refl, refl, (c.free (λ c. c == mark_of quote) (space_apart quote), c.come)),
  λ count. text_within quote at c count _ (flat at count),
)
lives (p.Quoted quote) at = let c = coming at in
    (c.text, c.good, inl (c.free (λ c. c == mark_of quote) (space_apart quote), c.come), λ count. quoted_within quote at c count _ (flat at count))
lives (p.Word word) at = let c = coming at in (
  letters word ++ c.text,
  each-append Good (letters word) c.text (good_letters word) c.good,
  (c.text, refl, (c.free is_name_char no_name_space, c.come)),
  λ count. letters_within word at count _ c.text (spelled_within at c count _ (flat at count)),
)
lives p.Order at = let c = coming at in (
  116 ∷ c.text,
  (good_low 116 (omega arith) (omega arith), c.good),
  (116, c.text, refl, refl, (c.free is_name_char no_name_space, c.come)),
  λ count. spelled_within at c count _ (flat at count),
)
lives p.Either at = either_lives at
lives p.Spelled at = let c = coming at in (c.text, c.good, (c.free is_name_char no_name_space, c.come), λ count. spelled_within at c count _ (flat at count))
