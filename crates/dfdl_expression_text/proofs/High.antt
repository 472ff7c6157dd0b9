-- What a state does with characters past ASCII.
use Rattle.std.proofs.Common.{◌≡◌, ℕ, ◌==◌, ◌&&◌, ◌||◌, ◌≤◌, ◌<◌, nat_le, nat_lt, Bool, true, false, if◌then◌else◌, List, [], ◌∷◌, Option, Some, None, Result, Ok, Err, refl, ap, sym, subst, ◌∙◌, arith, inl, inr}
use Rattle.std.proofs.lemmas.Bool.{cond_both, cases_Bool}
use Rattle.std.proofs.lemmas.Bool.Decides.{nat_tests}
use Rattle.std.specs.Char.{IsScalar}
use Rattle.dfdl_xml_chars.specs.Characters.{is_name_start, is_name_char, is_in, high_start_rows, high_name_rows, high_mark_rows, low_name_rows, low_start_rows}
use Rattle.dfdl_xml_chars.specs.Beyond.{Beyond, All, Only, Never, Does, GoesOn, FitsBehind, by_test}
use Rattle.dfdl_xml_chars.proofs.Tables.{high_start, high_char, start_rows_allowed, name_rows_allowed, no_rows_allowed}
use Rattle.dfdl_expression_text.specs.declared.kind.Kind.TheVariants as k
use Rattle.dfdl_expression_text.specs.declared.mark.Mark.{Mark}
use Rattle.dfdl_expression_text.specs.declared.mark.Mark.TheVariants as m
use Rattle.dfdl_expression_text.specs.declared.mark.Frame.{Frame}
use Rattle.dfdl_expression_text.specs.declared.piece.Stage.{Stage}
use Rattle.dfdl_expression_text.specs.declared.piece.Stage.TheVariants.{AfterI, AfterIf, First, Colon, Second}
use Rattle.dfdl_expression_text.specs.declared.piece.Word.{Word}
use Rattle.dfdl_expression_text.specs.declared.piece.Word.TheVariants as w
use Rattle.dfdl_expression_text.specs.declared.piece.Piece.{Piece}
use Rattle.dfdl_expression_text.specs.declared.piece.Piece.TheVariants as p
use Rattle.dfdl_expression_text.specs.declared.piece.Class.{Class}
use Rattle.dfdl_expression_text.specs.declared.piece.Class.TheVariants as class
use Rattle.dfdl_expression_text.specs.declared.piece.Quote.TheVariants.{Single, Double}
use Rattle.dfdl_expression_text.specs.Tokens.{is_white, is_digit}
use Rattle.dfdl_expression_text.specs.Machine.{At, next, sign_of, class_of, State, begin_by, begin_at, end_before, word_begins, letter_begins, stage_next, named_at, name_step, word_next, step_piece, step, mark_of}
use Rattle.dfdl_expression_text.specs.Machine.{beyond, beyond_piece, beyond_names, beyond_stage, act}
use Rattle.dfdl_xml_chars.proofs.Tables.{in_name_rows}
use Rattle.std.proofs.Common.{◌+◌}
use Rattle.dfdl_expression_text.specs.declared.piece.Quote.{Quote}
use Rattle.dfdl_expression_text.specs.Syntax.{most_tokens}
use Rattle.dfdl_expression_text.specs.Limit.{owed_all, owed_mark, beside, left_open, least, is_within, limited, if_room, room_for_name, limited_by}
use Rattle.std.proofs.lemmas.Bool.{or_parts}
use Rattle.dfdl_expression_text.proofs.Steps.{or_false}

apart : (c d : ℕ) → 128 ≤ c → d < 128 → (c == d) ≡ false
apart c d high low = grind (arith, nat_tests)

not_white : (c : ℕ) → 128 ≤ c → is_white c ≡ false
not_white c high = grind (arith, nat_tests)

not_digit : (c : ℕ) → 128 ≤ c → is_digit c ≡ false
not_digit c high = grind (arith, nat_tests)

neither : (c d e : ℕ) → 128 ≤ c → d < 128 → e < 128 → (c == d || c == e) ≡ false
neither c d e high first second = or_false (c == d) (c == e) (apart c d high first) (apart c e high second)

skip : {A : Type 0} (b : Bool) (x y : A) → b ≡ false → (if b then x else y) ≡ y
skip true x y is = absurd (cc)
skip false x y is = refl

sign_high : (c : ℕ) → 128 ≤ c → sign_of c ≡ class.Other
unfolding sign_of
sign_high c high =
    skip (c == 36) (class.Sign k.Dollar) _ (apart c 36 high (omega arith))
    ∙ (skip (c == 47) (class.Sign k.Slash) _ (apart c 47 high (omega arith))
    ∙ (skip (c == 40) (class.Sign k.Open) _ (apart c 40 high (omega arith))
    ∙ (skip (c == 41) (class.Sign k.Close) _ (apart c 41 high (omega arith))
    ∙ (skip (c == 44) (class.Sign k.Comma) _ (apart c 44 high (omega arith))
    ∙ (skip (c == 91) (class.Sign k.OpenIndex) _ (apart c 91 high (omega arith))
    ∙ (skip (c == 93) (class.Sign k.CloseIndex) _ (apart c 93 high (omega arith))
    ∙ (skip (c == 45) (class.Sign k.Minus) _ (apart c 45 high (omega arith))
    ∙ (skip (c == 43 || c == 42) (class.Sign k.Calculation) _ (neither c 43 42 high (omega arith) (omega arith))
    ∙ skip (c == 61) (class.Sign k.Comparison) class.Other (apart c 61 high (omega arith))))))))))

-- what a character past ASCII begins
class_high : (c : ℕ) → 128 ≤ c → class_of c ≡ (if is_in high_start_rows c then class.Letter else class.Other)
unfolding class_of
class_high c high =
    skip (is_white c) class.White _ (not_white c high)
    ∙ (skip (c == 39) (class.Quote Single) _ (apart c 39 high (omega arith))
    ∙ (skip (c == 34) (class.Quote Double) _ (apart c 34 high (omega arith))
    ∙ (skip (is_digit c) class.Digit _ (not_digit c high)
    ∙ (skip (c == 46) class.Point _ (apart c 46 high (omega arith))
    ∙ (skip (c == 60 || c == 62) class.Angle _ (neither c 60 62 high (omega arith) (omega arith))
    ∙ (skip (c == 33) class.Bang _ (apart c 33 high (omega arith))
    ∙ (ap (λ b. if b then class.Letter else sign_of c) (high_start c high)
    ∙ ap (λ cl. if is_in high_start_rows c then class.Letter else cl) (sign_high c high))))))))

word_high : (at : At) (count c : ℕ) → 128 ≤ c → word_begins at count c ≡ Err 3
unfolding word_begins
word_high at count c high =
    skip (c == 97) _ _ (apart c 97 high (omega arith))
    ∙ (skip (c == 111) _ _ (apart c 111 high (omega arith))
    ∙ (skip (c == 100) _ _ (apart c 100 high (omega arith))
    ∙ (skip (c == 105) _ _ (apart c 105 high (omega arith))
    ∙ (skip (c == 109) _ _ (apart c 109 high (omega arith))
    ∙ (skip (c == 101) _ _ (apart c 101 high (omega arith))
    ∙ (skip (c == 110) _ _ (apart c 110 high (omega arith))
    ∙ (skip (c == 108 || c == 103) _ _ (neither c 108 103 high (omega arith) (omega arith))
    ∙ skip (c == 116) _ _ (apart c 116 high (omega arith)))))))))

begin_high : (at : At) (count c : ℕ) → 128 ≤ c
    → begin_at at count c ≡ (if is_in high_start_rows c then letter_begins at count c (next at k.Name) else Err 3)
begin_high at count c high =
    ap (λ cl. begin_by cl at count c) (class_high c high)
    ∙ elim (is_in high_start_rows c) as (λ b. begin_by (if b then class.Letter else class.Other) at count c ≡ (if b then letter_begins at count c (next at k.Name) else Err 3)) [
      | true ↦ refl
      | false ↦ refl
    ]

-- where it begins no name it is refused
refused_high : (at : At) (count c : ℕ) → 128 ≤ c → is_in high_start_rows c ≡ false → begin_at at count c ≡ Err 3
refused_high at count c high is = begin_high at count c high ∙ skip (is_in high_start_rows c) _ (Err 3) is

end_high : (o : Option At) (count c : ℕ) → 128 ≤ c → is_in high_start_rows c ≡ false → end_before o count c ≡ Err 3
end_high None count c high is = refl
end_high (Some t) count c high is = refused_high t count c high is

goes_on : {s : State} (r : Result State ℕ) → r ≡ Ok s → GoesOn r
goes_on {s} r is = (s, is)

names_by : (at : At) (count c : ℕ) → 128 ≤ c → (o : Option At) (b : Bool) → is_in high_start_rows c ≡ b
    → Does (beyond_names o) c (if b then letter_begins at count c o else Err 3)
names_by at count c high (Some t) true is = (λ e. (_, refl), λ e. absurd (cc))
names_by at count c high (Some t) false is = (λ e. absurd (cc), λ e. refl)
names_by at count c high None true is = word_high at count c high
names_by at count c high None false is = refl

names_do : (at : At) (count c : ℕ) → 128 ≤ c → Does (beyond_names (next at k.Name)) c (begin_at at count c)
names_do at count c high =
    subst (λ (r : Result State ℕ). Does (beyond_names (next at k.Name)) c r) (sym (begin_high at count c high))
    (names_by at count c high (next at k.Name) (is_in high_start_rows c) refl)

behind_dot : (b : Bool) (fs : List Frame) (t : At) → record { mark = m.Stepped b; opened = fs } ≡ t → next t k.Name ≡ None
unfolding act
behind_dot b fs t same = subst (λ u. next u k.Name ≡ None) same refl

-- behind a `.` no name begins
dot_then : (mark : Mark) (fs : List Frame) (t : At) → next (record { mark = mark; opened = fs }) k.Dot ≡ Some t → next t k.Name ≡ None
unfolding act
dot_then m.Begin fs t goes = behind_dot false fs t (cc)
dot_then m.Arguments fs t goes = behind_dot false fs t (cc)
dot_then (m.Operand b) fs t goes = behind_dot b fs t (cc)
dot_then (m.Positive b) fs t goes = behind_dot b fs t (cc)
dot_then (m.Step b) fs t goes = behind_dot b fs t (cc)
dot_then _ fs t goes = absurd (cc)

ends_refused : (at : At) (count c : ℕ) → 128 ≤ c → (o : Option At) → next at k.Dot ≡ o → end_before o count c ≡ Err 3
ends_refused at count c high None is = refl
ends_refused at count c high (Some t) is =
    begin_high t count c high
    ∙ elim (is_in high_start_rows c) as (λ b. (if b then letter_begins t count c (next t k.Name) else Err 3) ≡ Err 3) [
      | true ↦ ap (λ o. letter_begins t count c o) (dot_then at.mark at.opened t is) ∙ word_high t count c high
      | false ↦ refl
    ]

-- what begins no name but goes on in none begins none
not_start : (c : ℕ) → is_in high_name_rows c ≡ false → is_in high_start_rows c ≡ false
not_start c is = (or_parts (is_in high_mark_rows c) (is_in high_start_rows c) (sym (in_name_rows c) ∙ is)).1

abbrev later : Stage → Stage
later Second = Second
later _ = First

stage_high : (stage : Stage) (c : ℕ) → 128 ≤ c → (stage ≡ Colon → ⊥) → stage_next stage c ≡ (if is_in high_name_rows c then Some (later stage) else None)
unfolding stage_next
stage_high Colon c high other = absurd (other refl)
stage_high Second c high other = ap (λ b. if b then Some Second else None) (high_char c high)
stage_high First c high other = ap (λ o. if is_name_char c then Some First else o) (skip (c == 58) (Some Colon) None (apart c 58 high (omega arith))) ∙ ap (λ b. if b then Some First else None) (high_char c high)
stage_high AfterIf c high other = ap (λ o. if is_name_char c then Some First else o) (skip (c == 58) (Some Colon) None (apart c 58 high (omega arith))) ∙ ap (λ b. if b then Some First else None) (high_char c high)
stage_high AfterI c high other =
    skip (c == 102) (Some AfterIf) _ (apart c 102 high (omega arith))
    ∙ (ap (λ o. if is_name_char c then Some First else o) (skip (c == 58) (Some Colon) None (apart c 58 high (omega arith))) ∙ ap (λ b. if b then Some First else None) (high_char c high))

-- what a name does that isn't behind its colon
name_by : (stage : Stage) (at : At) (count c : ℕ) → 128 ≤ c → (b : Bool) → is_in high_name_rows c ≡ b
    → Does (Only high_name_rows 3) c (name_step (if b then Some (later stage) else None) stage at count c)
name_by stage at count c high true is = (λ e. (_, refl), λ e. absurd (cc))
name_by stage at count c high false is = (λ e. absurd (cc), λ e. end_high (named_at at stage) count c high (not_start c is))

name_does : (stage : Stage) (at : At) (count c : ℕ) → 128 ≤ c → (stage ≡ Colon → ⊥)
    → Does (Only high_name_rows 3) c (name_step (stage_next stage c) stage at count c)
name_does stage at count c high other =
    subst (λ (o : Option Stage). Does (Only high_name_rows 3) c (name_step o stage at count c)) (sym (stage_high stage c high other))
    (name_by stage at count c high (is_in high_name_rows c) refl)

colon_by : (at : At) (count c : ℕ) → (b : Bool) → is_in high_start_rows c ≡ b
    → Does (Only high_start_rows 3) c (name_step (if b then Some Second else None) Colon at count c)
colon_by at count c true is = (λ e. (_, refl), λ e. absurd (cc))
colon_by at count c false is = (λ e. absurd (cc), λ e. refl)

colon_high : (c : ℕ) → 128 ≤ c → stage_next Colon c ≡ (if is_in high_start_rows c then Some Second else None)
unfolding stage_next
colon_high c high = ap (λ b. if b then Some Second else None) (high_start c high)

digits_high : (pointed : Bool) (at : At) (count c : ℕ) → 128 ≤ c → step_piece (p.Digits pointed) at count c ≡ Err 3
digits_high pointed at count c high =
    skip (is_digit c) _ _ (not_digit c high)
    ∙ (skip (c == 46) _ _ (apart c 46 high (omega arith))
    ∙ cond_both (is_name_start c) (Err 3) (begin_at at count c) (λ (r : Result State ℕ). r ≡ Err 3) (λ e. refl)
    (λ e. refused_high at count c high (sym (high_start c high) ∙ e)))

low_letter : (word : Word) → (word_next word).0 < 128
low_letter w.D = omega arith
low_letter w.Nd = omega arith
low_letter w.Od = omega arith
low_letter w.V = omega arith
low_letter w.Iv = omega arith
low_letter w.Div = omega arith
low_letter w.R = omega arith
low_letter w.E = omega arith
low_letter w.Se = omega arith
low_letter w.N = omega arith
low_letter w.En = omega arith
low_letter w.Hen = omega arith

-- a character past ASCII does what the state says
pub does_at : (piece : Piece) (at : At) (count c : ℕ) → 128 ≤ c → Does (beyond_piece piece at) c (step_piece piece at count c)
does_at p.Ready at count c high = names_do at count c high
does_at (p.Named AfterI) at count c high = name_does AfterI at count c high (λ same. cc)
does_at (p.Named AfterIf) at count c high = name_does AfterIf at count c high (λ same. cc)
does_at (p.Named First) at count c high = name_does First at count c high (λ same. cc)
does_at (p.Named Second) at count c high = name_does Second at count c high (λ same. cc)
does_at (p.Named Colon) at count c high =
    subst (λ (o : Option Stage). Does (Only high_start_rows 3) c (name_step o Colon at count c)) (sym (colon_high c high))
    (colon_by at count c (is_in high_start_rows c) refl)
does_at (p.Digits pointed) at count c high = digits_high pointed at count c high
does_at p.Point at count c high =
    skip (c == 46) _ _ (apart c 46 high (omega arith)) ∙ (skip (is_digit c) _ _ (not_digit c high) ∙ ends_refused at count c high (next at k.Dot) refl)
does_at p.MayEqual at count c high =
    subst (λ (r : Result State ℕ). Does (beyond_names (next at k.Name)) c r) (sym (skip (c == 61) _ _ (apart c 61 high (omega arith)))) (names_do at count c high)
does_at p.MustEqual at count c high = skip (c == 61) _ _ (apart c 61 high (omega arith))
does_at (p.Text quote) at count c high = (_, refl)
does_at (p.Quoted Single) at count c high =
    subst (λ (r : Result State ℕ). Does (beyond_names (next at k.Name)) c r) (sym (skip (c == 39) _ _ (apart c 39 high (omega arith)))) (names_do at count c high)
does_at (p.Quoted Double) at count c high =
    subst (λ (r : Result State ℕ). Does (beyond_names (next at k.Name)) c r) (sym (skip (c == 34) _ _ (apart c 34 high (omega arith)))) (names_do at count c high)
does_at (p.Word word) at count c high = skip (c == (word_next word).0) _ _ (apart c (word_next word).0 high (low_letter word))
does_at p.Order at count c high = skip (c == 116 || c == 101) _ _ (neither c 116 101 high (omega arith) (omega arith))
does_at p.Either at count c high = skip (c == 113) _ _ (apart c 113 high (omega arith)) ∙ skip (c == 108) _ _ (apart c 108 high (omega arith))
does_at p.Spelled at count c high =
    cond_both (is_name_char c) (Err 3) (begin_at at count c) (λ (r : Result State ℕ). r ≡ Err 3) (λ e. refl)
    (λ e. refused_high at count c high (not_start c (sym (high_char c high) ∙ e)))

names_fit : (o : Option At) → FitsBehind 2 (beyond_names o)
names_fit None = (no_rows_allowed, omega arith, omega arith)
names_fit (Some t) = (start_rows_allowed, omega arith)

-- and what it says is in order
pub fits_at : (piece : Piece) (at : At) → FitsBehind 2 (beyond_piece piece at)
fits_at p.Ready at = names_fit (next at k.Name)
fits_at (p.Named AfterI) at = (name_rows_allowed, omega arith)
fits_at (p.Named AfterIf) at = (name_rows_allowed, omega arith)
fits_at (p.Named First) at = (name_rows_allowed, omega arith)
fits_at (p.Named Second) at = (name_rows_allowed, omega arith)
fits_at (p.Named Colon) at = (start_rows_allowed, omega arith)
fits_at p.Point at = (no_rows_allowed, omega arith, omega arith)
fits_at p.MayEqual at = names_fit (next at k.Name)
fits_at (p.Quoted quote) at = names_fit (next at k.Name)
fits_at (p.Text quote) at = tt
fits_at (p.Digits pointed) at = (no_rows_allowed, omega arith, omega arith)
fits_at p.MustEqual at = (no_rows_allowed, omega arith, omega arith)
fits_at (p.Word word) at = (no_rows_allowed, omega arith, omega arith)
fits_at p.Order at = (no_rows_allowed, omega arith, omega arith)
fits_at p.Either at = (no_rows_allowed, omega arith, omega arith)
fits_at p.Spelled at = (no_rows_allowed, omega arith, omega arith)

-- the same under the limit
pub limited_ok : (t : State) → least t ≤ most_tokens → limited (Ok t) ≡ Ok t
limited_ok t few = ap (λ b. if b then Ok t else Err 3) (within_true (least t) few)
  where
    within_true : (n : ℕ) → n ≤ 1000 → nat_le n 1000 ≡ true
    within_true n few = grind (arith, nat_tests)

limited_names : (at : At) (count c : ℕ) → 128 ≤ c → (o : Option At) (b : Bool) → is_in high_start_rows c ≡ b
    → (w : Bool) → is_within (record { piece = p.Named First; at = at; count = count + 1 }) ≡ w
    → Does (beyond_names (if_room w o)) c (limited (if b then letter_begins at count c o else Err 3))
limited_names at count c high (Some t) true is true room = (λ e. (_, ap (λ b. if b then Ok (begun c) else Err 3) room), λ e. absurd (cc))
  where
    begun : ℕ → State
    begun x = record { piece = p.Named (if x == 105 then AfterI else First); at = at; count = count + 1 }
limited_names at count c high (Some t) true is false room = ap (λ b. if b then Ok (record { piece = p.Named (if c == 105 then AfterI else First); at = at; count = count + 1 }) else Err 3) room
limited_names at count c high (Some t) false is true room = (λ e. absurd (cc), λ e. refl)
limited_names at count c high (Some t) false is false room = refl
limited_names at count c high None true is true room = ap limited (word_high at count c high)
limited_names at count c high None true is false room = ap limited (word_high at count c high)
limited_names at count c high None false is true room = refl
limited_names at count c high None false is false room = refl

limited_names_do : (at : At) (count c : ℕ) → 128 ≤ c
    → Does (beyond_names (room_for_name (record { piece = p.Ready; at = at; count = count }))) c (limited (begin_at at count c))
limited_names_do at count c high =
    subst (λ (r : Result State ℕ). Does (beyond_names (room_for_name (record { piece = p.Ready; at = at; count = count }))) c (limited r)) (sym (begin_high at count c high))
    (limited_names at count c high (next at k.Name) (is_in high_start_rows c) refl (is_within (record { piece = p.Named First; at = at; count = count + 1 })) refl)

-- a name that goes on needs no more tokens
limited_name_by : (stage : Stage) (at : At) (count c : ℕ) → 128 ≤ c → (count + 0) + owed_all at.opened ≤ most_tokens → (b : Bool) → is_in high_name_rows c ≡ b
    → Does (Only high_name_rows 3) c (limited (name_step (if b then Some (later stage) else None) stage at count c))
limited_name_by stage at count c high few true is = (λ e. (_, limited_ok (record { piece = p.Named (later stage); at = at; count = count }) few), λ e. absurd (cc))
limited_name_by stage at count c high few false is = (λ e. absurd (cc), λ e. ap limited (end_high (named_at at stage) count c high (not_start c is)))

limited_name_does : (stage : Stage) (at : At) (count c : ℕ) → 128 ≤ c → (count + 0) + owed_all at.opened ≤ most_tokens → (stage ≡ Colon → ⊥)
    → Does (Only high_name_rows 3) c (limited (name_step (stage_next stage c) stage at count c))
limited_name_does stage at count c high few other =
    subst (λ (o : Option Stage). Does (Only high_name_rows 3) c (limited (name_step o stage at count c))) (sym (stage_high stage c high other))
    (limited_name_by stage at count c high few (is_in high_name_rows c) refl)

limited_colon_by : (at : At) (count c : ℕ) → (count + 0) + owed_all at.opened ≤ most_tokens → (b : Bool) → is_in high_start_rows c ≡ b
    → Does (Only high_start_rows 3) c (limited (name_step (if b then Some Second else None) Colon at count c))
limited_colon_by at count c few true is = (λ e. (_, limited_ok (record { piece = p.Named Second; at = at; count = count }) few), λ e. absurd (cc))
limited_colon_by at count c few false is = (λ e. absurd (cc), λ e. refl)

text_few : (quote : Quote) (at : At) (count : ℕ) (b : Bool) → (count + owed_mark at.mark) + owed_all at.opened ≤ most_tokens
    → least (record { piece = if b then p.Quoted quote else p.Text quote; at = at; count = count }) ≤ most_tokens
text_few quote at count true few = few
text_few quote at count false few = few

-- a character past ASCII does what the state says
pub limited_does : (piece : Piece) (at : At) (count c : ℕ) → least (record { piece = piece; at = at; count = count }) ≤ most_tokens → 128 ≤ c
    → Does (limited_by piece (record { piece = piece; at = at; count = count })) c (limited (step_piece piece at count c))
limited_does p.Ready at count c few high = limited_names_do at count c high
limited_does (p.Named AfterI) at count c few high = limited_name_does AfterI at count c high few (λ same. cc)
limited_does (p.Named AfterIf) at count c few high = limited_name_does AfterIf at count c high few (λ same. cc)
limited_does (p.Named First) at count c few high = limited_name_does First at count c high few (λ same. cc)
limited_does (p.Named Second) at count c few high = limited_name_does Second at count c high few (λ same. cc)
limited_does (p.Named Colon) at count c few high =
    subst (λ (o : Option Stage). Does (Only high_start_rows 3) c (limited (name_step o Colon at count c))) (sym (colon_high c high))
    (limited_colon_by at count c few (is_in high_start_rows c) refl)
limited_does (p.Digits pointed) at count c few high = ap limited (does_at (p.Digits pointed) at count c high)
limited_does p.Point at count c few high = ap limited (does_at p.Point at count c high)
limited_does p.MayEqual at count c few high =
    subst (λ (r : Result State ℕ). Does (beyond_names (room_for_name (record { piece = p.Ready; at = at; count = count }))) c (limited r)) (sym (skip (c == 61) _ _ (apart c 61 high (omega arith)))) (limited_names_do at count c high)
limited_does p.MustEqual at count c few high = ap limited (does_at p.MustEqual at count c high)
limited_does (p.Text quote) at count c few high =
    (_, limited_ok (record { piece = if c == mark_of quote then p.Quoted quote else p.Text quote; at = at; count = count }) (text_few quote at count (c == mark_of quote) few))
limited_does (p.Quoted Single) at count c few high =
    subst (λ (r : Result State ℕ). Does (beyond_names (room_for_name (record { piece = p.Ready; at = at; count = count }))) c (limited r)) (sym (skip (c == 39) _ _ (apart c 39 high (omega arith)))) (limited_names_do at count c high)
limited_does (p.Quoted Double) at count c few high =
    subst (λ (r : Result State ℕ). Does (beyond_names (room_for_name (record { piece = p.Ready; at = at; count = count }))) c (limited r)) (sym (skip (c == 34) _ _ (apart c 34 high (omega arith)))) (limited_names_do at count c high)
limited_does (p.Word word) at count c few high = ap limited (does_at (p.Word word) at count c high)
limited_does p.Order at count c few high = ap limited (does_at p.Order at count c high)
limited_does p.Either at count c few high = ap limited (does_at p.Either at count c high)
limited_does p.Spelled at count c few high = ap limited (does_at p.Spelled at count c high)

pub limited_fits : (piece : Piece) (s : State) → FitsBehind 2 (limited_by piece s)
limited_fits p.Ready s = names_fit (room_for_name s)
limited_fits p.MayEqual s = names_fit (room_for_name s)
limited_fits (p.Quoted quote) s = names_fit (room_for_name s)
limited_fits (p.Named stage) s = fits_at (p.Named stage) s.at
limited_fits p.Point s = fits_at p.Point s.at
limited_fits (p.Text quote) s = fits_at (p.Text quote) s.at
limited_fits (p.Digits pointed) s = fits_at (p.Digits pointed) s.at
limited_fits p.MustEqual s = fits_at p.MustEqual s.at
limited_fits (p.Word word) s = fits_at (p.Word word) s.at
limited_fits p.Order s = fits_at p.Order s.at
limited_fits p.Either s = fits_at p.Either s.at
limited_fits p.Spelled s = fits_at p.Spelled s.at
