-- Each step of the reader keeps what may come, and where it accepts nothing may.
use Rattle.std.proofs.Common.{◌≡◌, ℕ, ◌==◌, ◌&&◌, ◌||◌, not, Bool, true, false, if◌then◌else◌, List, [], ◌∷◌, ◌++◌, ◌⊎◌, inl, inr, Option, Some, None, Result, Ok, Err, IfSome, IfOk, IsSome, refl, ap, sym, subst, ◌∙◌, append_assoc}
use Rattle.std.proofs.lemmas.Bool.{cond_both, eqb-true, cases_Bool}
use Rattle.std.proofs.lemmas.List.{append-nil}
use Rattle.dfdl_layers.specs.Tellers.{Each}
use Rattle.dfdl_layers.proofs.Runs.{each-append}
use Rattle.dfdl_xml_chars.specs.Characters.{is_name_start, is_name_char, low_start_rows, low_name_rows}
use Rattle.dfdl_expression_text.specs.declared.kind.Kind.{Kind}
use Rattle.dfdl_expression_text.specs.declared.kind.Kind.TheVariants as k
use Rattle.dfdl_expression_text.specs.declared.piece.Stage.{Stage}
use Rattle.dfdl_expression_text.specs.declared.piece.Stage.TheVariants.{AfterI, AfterIf, First, Colon, Second}
use Rattle.dfdl_expression_text.specs.declared.piece.Word.{Word}
use Rattle.dfdl_expression_text.specs.declared.piece.Word.TheVariants as w
use Rattle.dfdl_expression_text.specs.declared.piece.Quote.{Quote}
use Rattle.dfdl_expression_text.specs.declared.piece.Quote.TheVariants.{Single, Double}
use Rattle.dfdl_expression_text.specs.declared.piece.Piece.{Piece}
use Rattle.dfdl_expression_text.specs.declared.piece.Piece.TheVariants as p
use Rattle.dfdl_expression_text.specs.declared.piece.Class.{Class}
use Rattle.dfdl_expression_text.specs.declared.piece.Class.TheVariants as class
use Rattle.dfdl_expression_text.specs.Tokens.{is_white, is_digit, is_quote, AllPass, Stops, IsPart, IsPrefixed, IsName, is_if, IsDigits, IsNumber, IsQuoted}
use Rattle.dfdl_expression_text.specs.Tokens.{signs, words, IsOneOf, sticks, IsToken, Spelled}
use Rattle.dfdl_expression_text.specs.Tokens as token
use Rattle.dfdl_expression_text.specs.Machine.{At, next, may_end, may_end_if, class_of, mark_of, State, on, begin, hold, or_at, word_begins, letter_begins}
use Rattle.dfdl_expression_text.specs.Machine.{begin_by, begin_at, end_before, stage_next, named_at, name_step, word_next, step_piece, step, accepts, accepts_piece}
use Rattle.dfdl_expression_text.proofs.Comes.{Comes, back_at, ends_at_last}
use Rattle.dfdl_expression_text.proofs.Texts.{MayCome, at_option, as_text, feed, plain, plain_more, plain_apart, prefixed_apart, Wrote, letters, is_equals, Free, Equals, InQuotes, RestAt, RestOf, some_known, begin_keeps}

i_starts : is_name_start 105 ≡ true
unfolding is_name_start low_start_rows
i_starts = refl

f_goes_on : is_name_char 102 ≡ true
unfolding is_name_char low_name_rows low_start_rows
f_goes_on = refl

part_more : (word : List ℕ) (c : ℕ) → IsPart word → is_name_char c ≡ true → IsPart (word ++ c ∷ [])
part_more [] c part is = absurd part
part_more (a ∷ word) c part is = (part.0, each-append (λ x. is_name_char x ≡ true) word (c ∷ []) part.1 (is, tt))

-- the name so far, and one character more
grows : (stage : Stage) (c : ℕ) (word : List ℕ) → Wrote stage word → IfSome (stage_next stage c) (λ u. Wrote u (word ++ c ∷ []))
unfolding stage_next
grows Colon c word (part, is, same) =
    cond_both (is_name_start c) (Some Second) None (λ o. IfSome o (λ u. Wrote u (word ++ c ∷ [])))
    (λ e. record { prefix = part; part = c ∷ []; spelled = ap (λ l. l ++ c ∷ []) same ∙ append_assoc part (58 ∷ []) (c ∷ []); is_prefix = is; is_part = (e, tt) })
    (λ e. tt)
grows Second c word name =
    cond_both (is_name_char c) (Some Second) None (λ o. IfSome o (λ u. Wrote u (word ++ c ∷ [])))
    (λ e. record { prefix = name.prefix; part = name.part ++ c ∷ []; spelled = ap (λ l. l ++ c ∷ []) name.spelled ∙ append_assoc name.prefix (58 ∷ name.part) (c ∷ []); is_prefix = name.is_prefix; is_part = part_more name.part c name.is_part e })
    (λ e. tt)
grows AfterI c word same =
    cond_both (c == 102) (Some AfterIf) _ (λ o. IfSome o (λ u. Wrote u (word ++ c ∷ [])))
    (λ e. ap (λ l. l ++ c ∷ []) same ∙ ap (λ x. 105 ∷ x ∷ []) (eqb-true c 102 e))
    (λ e. cond_both (is_name_char c) (Some First) _ (λ o. IfSome o (λ u. Wrote u (word ++ c ∷ [])))
    (λ f. subst (λ l. Wrote First (l ++ c ∷ [])) (sym same) ((i_starts, (f, tt)), ap not e))
    (λ f. cond_both (c == 58) (Some Colon) None (λ o. IfSome o (λ u. Wrote u (word ++ c ∷ [])))
    (λ g. (105 ∷ [], (i_starts, tt), ap (λ l. l ++ c ∷ []) same ∙ ap (λ x. 105 ∷ x ∷ []) (eqb-true c 58 g))) (λ g. tt)))
grows AfterIf c word same =
    cond_both (is_name_char c) (Some First) _ (λ o. IfSome o (λ u. Wrote u (word ++ c ∷ [])))
    (λ f. subst (λ l. Wrote First (l ++ c ∷ [])) (sym same) ((i_starts, (f_goes_on, (f, tt))), refl))
    (λ f. cond_both (c == 58) (Some Colon) None (λ o. IfSome o (λ u. Wrote u (word ++ c ∷ [])))
    (λ g. (105 ∷ 102 ∷ [], (i_starts, (f_goes_on, tt)), ap (λ l. l ++ c ∷ []) same ∙ ap (λ x. 105 ∷ 102 ∷ x ∷ []) (eqb-true c 58 g))) (λ g. tt))
grows First c word (part, is) =
    cond_both (is_name_char c) (Some First) _ (λ o. IfSome o (λ u. Wrote u (word ++ c ∷ [])))
    (λ f. (part_more word c part f, plain_more word c is))
    (λ f. cond_both (c == 58) (Some Colon) None (λ o. IfSome o (λ u. Wrote u (word ++ c ∷ [])))
    (λ g. (word, part, ap (λ x. word ++ x ∷ []) (eqb-true c 58 g))) (λ g. tt))

not_taken : {A : Type 0} (b : Bool) (a : A) (o : Option A) → (if b then Some a else o) ≡ None → (b ≡ false) × (o ≡ None)
not_taken true a o is = absurd (cc)
not_taken false a o is = (refl, is)

-- a name that doesn't go on has ended
name_ends : (at t : At) (stage : Stage) (c : ℕ) → stage_next stage c ≡ None → named_at at stage ≡ Some t → is_name_char c ≡ false
unfolding stage_next
name_ends at t Colon c none goes = absurd (cc)
name_ends at t Second c none goes = (not_taken (is_name_char c) Second None none).0
name_ends at t AfterI c none goes = (not_taken (is_name_char c) First _ (not_taken (c == 102) AfterIf _ none).1).0
name_ends at t AfterIf c none goes = (not_taken (is_name_char c) First _ none).0
name_ends at t First c none goes = (not_taken (is_name_char c) First _ none).0

-- a name before what may come behind it
pub named : (at t : At) (stage : Stage) (word rest : List ℕ) → Wrote stage word → named_at at stage ≡ Some t → Free is_name_char t rest → MayCome at (word ++ rest)
named at t AfterI word rest same goes (stops, come) =
    subst (λ l. MayCome at (l ++ rest)) (sym same) (feed at t k.Name (105 ∷ []) rest goes (token.Ordinary (105 ∷ []) rest (inl (i_starts, tt)) refl stops) come)
named at t AfterIf word rest same goes (stops, come) =
    subst (λ l. MayCome at (l ++ rest)) (sym same) (feed at t k.If (105 ∷ 102 ∷ []) rest goes (token.Word k.If (105 ∷ 102 ∷ []) rest (inl refl) stops) come)
named at t First word rest (part, is) goes (stops, come) = feed at t k.Name word rest goes (token.Ordinary word rest (inl part) (plain_apart word is) stops) come
named at t Second word rest name goes (stops, come) = feed at t k.Name word rest goes (token.Ordinary word rest (inr name) (prefixed_apart word name) stops) come
named at t Colon word rest name goes free = absurd (cc)

-- what may come behind a step may come before it, behind its character
abbrev pub Goes : Piece → At → ℕ → Result State ℕ → Type 0
Goes piece at c r = IfOk r (λ t. (text : List ℕ) → RestOf t text → RestAt piece at (c ∷ text))

result_map : (P Q : State → Type 0) (r : Result State ℕ) → ((t : State) → P t → Q t) → IfOk r P → IfOk r Q
result_map P Q (Ok t) f given = f t given
result_map P Q (Err e) f given = tt

name_steps : (stage : Stage) (at : At) (count c : ℕ) → Goes (p.Named stage) at c (name_step (stage_next stage c) stage at count c)
name_steps stage at count c =
    at_option (stage_next stage c) (λ o. Goes (p.Named stage) at c (name_step o stage at count c))
    (λ none. at_option (named_at at stage) (λ o. Goes (p.Named stage) at c (end_before o count c)) (λ e. tt)
    (λ t goes. result_map (λ u. (text : List ℕ) → RestOf u text → MayCome t (c ∷ text)) (λ u. (text : List ℕ) → RestOf u text → RestAt (p.Named stage) at (c ∷ text))
    (begin_at t count c) (λ u before text more some word wrote. named at t stage word (c ∷ text) wrote goes (name_ends at t stage c none goes, before text more))
    (begin_keeps t count c)))
    (λ next_stage is text more some word wrote.
    as_text at (word ++ c ∷ text) ((word ++ c ∷ []) ++ text) (sym (append_assoc word (c ∷ []) text))
    (more some (word ++ c ∷ []) (subst (λ o. IfSome o (λ u. Wrote u (word ++ c ∷ []))) is (grows stage c word wrote))))

-- the piece ends before the character
ended : (piece : Piece) (at : At) (count c : ℕ) → ((text : List ℕ) → MayCome at (c ∷ text) → RestAt piece at (c ∷ text)) → Goes piece at c (begin_at at count c)
ended piece at count c more =
    result_map (λ u. (text : List ℕ) → RestOf u text → MayCome at (c ∷ text)) (λ u. (text : List ℕ) → RestOf u text → RestAt piece at (c ∷ text)) (begin_at at count c)
    (λ u before text from. more text (before text from)) (begin_keeps at count c)

pub or_false : (a b : Bool) → a ≡ false → b ≡ false → (a || b) ≡ false
or_false a b first second = ap (λ x. x || b) first ∙ second

digits_step : (pointed : Bool) (at : At) (count c : ℕ) → Goes (p.Digits pointed) at c (step_piece (p.Digits pointed) at count c)
digits_step pointed at count c =
    cond_both (is_digit c) _ _ (Goes (p.Digits pointed) at c)
    (λ e text (word, rest, same, digits, free). (c ∷ word, rest, ap (λ l. c ∷ l) same, digit_more pointed c word e digits, free))
    (λ e. cond_both (c == 46) _ _ (Goes (p.Digits pointed) at c) (λ f. pointed_step pointed (eqb-true c 46 f))
    (λ f. cond_both (is_name_start c) _ _ (Goes (p.Digits pointed) at c) (λ g. tt)
    (λ g. ended (p.Digits pointed) at count c (λ text come. ([], c ∷ text, refl, tt, (or_false (is_digit c) (c == 46 || is_name_start c) e (or_false (c == 46) (is_name_start c) f g), come))))))
  where
    digit_more : (b : Bool) (c : ℕ) (word : List ℕ) → is_digit c ≡ true → IsDigits b word → IsDigits b (c ∷ word)
    digit_more false c word is digits = inl (is, digits)
    digit_more true c word is digits = (is, digits)

    pointed_step : (b : Bool) → c ≡ 46 → Goes (p.Digits b) at c (if b then Err 3 else Ok (record { piece = p.Digits true; at = at; count = count }))
    pointed_step true same = tt
    pointed_step false same = λ text (word, rest, is, digits, free). (c ∷ word, rest, ap (λ l. c ∷ l) is, inr (same, digits), free)

point_step : (at : At) (count c : ℕ) → Goes p.Point at c (step_piece p.Point at count c)
point_step at count c =
    cond_both (c == 46) _ _ (Goes p.Point at c)
    (λ e. at_option (next at k.Dot) (λ o. Goes p.Point at c (on p.Ready count o)) (λ n. tt)
    (λ t goes text come some. subst (λ x. MayCome at (46 ∷ x ∷ text)) (sym (eqb-true c 46 e)) (feed at t k.Dot (46 ∷ 46 ∷ []) text goes (token.Sign k.Dot (46 ∷ 46 ∷ []) text (inl refl)) come)))
    (λ e. cond_both (is_digit c) _ _ (Goes p.Point at c)
    (λ f. at_option (next at k.Literal) (λ o. Goes p.Point at c (on (p.Digits true) count o)) (λ n. tt)
    (λ t goes text (word, rest, same, digits, (stops, come)) some.
    as_text at (46 ∷ c ∷ text) ((46 ∷ c ∷ word) ++ rest) (ap (λ l. 46 ∷ c ∷ l) same)
    (feed at t k.Literal (46 ∷ c ∷ word) rest goes (token.Number (46 ∷ c ∷ word) rest (inr (refl, (f, digits))) stops) come)))
    (λ f. at_option (next at k.Dot) (λ o. Goes p.Point at c (end_before o count c)) (λ n. tt)
    (λ t goes. result_map (λ u. (text : List ℕ) → RestOf u text → MayCome t (c ∷ text)) (λ u. (text : List ℕ) → RestOf u text → RestAt p.Point at (c ∷ text)) (begin_at t count c)
    (λ u before text from some. feed at t k.Dot (46 ∷ []) (c ∷ text) goes (token.OneDot (c ∷ text) (or_false (c == 46) (is_digit c) e f)) (before text from))
    (begin_keeps t count c))))

text_step : (quote : Quote) (at : At) (count c : ℕ) → Goes (p.Text quote) at c (step_piece (p.Text quote) at count c)
text_step quote at count c =
    cond_both (c == mark_of quote) (p.Quoted quote) (p.Text quote) (λ piece. (text : List ℕ) → RestAt piece at text → InQuotes (mark_of quote) at (c ∷ text))
    (λ e text more. elim more [
      | inl free ↦ (c ∷ [], text, refl, eqb-true c (mark_of quote) e, free)
      | inr again ↦
          let (word, rest, same, quoted, free) = again.2 in
          (c ∷ mark_of quote ∷ word, rest, ap (λ l. c ∷ l) (again.1 ∙ ap (λ l. mark_of quote ∷ l) same), inr (eqb-true c (mark_of quote) e, refl, quoted), free)
    ])
    (λ e text (word, rest, same, quoted, free). (c ∷ word, rest, ap (λ l. c ∷ l) same, longer word e quoted, free))
  where
    longer : (word : List ℕ) → (c == mark_of quote) ≡ false → IsQuoted (mark_of quote) word → IsQuoted (mark_of quote) (c ∷ word)
    longer [] e quoted = absurd quoted
    longer (d ∷ word) e quoted = inl (e, quoted)

quoted_step : (quote : Quote) (at : At) (count c : ℕ) → Goes (p.Quoted quote) at c (step_piece (p.Quoted quote) at count c)
quoted_step quote at count c =
    cond_both (c == mark_of quote) _ _ (Goes (p.Quoted quote) at c)
    (λ e text more. inr (text, ap (λ x. x ∷ text) (eqb-true c (mark_of quote) e), more))
    (λ e. ended (p.Quoted quote) at count c (λ text come. inl (e, come)))

word_step : (word : Word) (at : At) (count c : ℕ) → Goes (p.Word word) at c (step_piece (p.Word word) at count c)
word_step word at count c =
    cond_both (c == (word_next word).0) _ _ (Goes (p.Word word) at c)
    (λ e text from. spelled word (eqb-true c (word_next word).0 e) text from) (λ e. tt)
  where
    spelled : (word : Word) → c ≡ (word_next word).0 → (text : List ℕ) → RestAt (word_next word).1 at text → RestAt (p.Word word) at (c ∷ text)
    spelled w.D same text free = (text, ap (λ x. x ∷ text) same, free)
    spelled w.V same text free = (text, ap (λ x. x ∷ text) same, free)
    spelled w.R same text free = (text, ap (λ x. x ∷ text) same, free)
    spelled w.E same text free = (text, ap (λ x. x ∷ text) same, free)
    spelled w.N same text free = (text, ap (λ x. x ∷ text) same, free)
    spelled w.Nd same text (rest, is, free) = (rest, ap (λ x. x ∷ text) same ∙ ap (λ l. 110 ∷ l) is, free)
    spelled w.Od same text (rest, is, free) = (rest, ap (λ x. x ∷ text) same ∙ ap (λ l. 111 ∷ l) is, free)
    spelled w.Iv same text (rest, is, free) = (rest, ap (λ x. x ∷ text) same ∙ ap (λ l. 105 ∷ l) is, free)
    spelled w.Div same text (rest, is, free) = (rest, ap (λ x. x ∷ text) same ∙ ap (λ l. 100 ∷ l) is, free)
    spelled w.Se same text (rest, is, free) = (rest, ap (λ x. x ∷ text) same ∙ ap (λ l. 115 ∷ l) is, free)
    spelled w.En same text (rest, is, free) = (rest, ap (λ x. x ∷ text) same ∙ ap (λ l. 101 ∷ l) is, free)
    spelled w.Hen same text (rest, is, free) = (rest, ap (λ x. x ∷ text) same ∙ ap (λ l. 104 ∷ l) is, free)

either_step : (at : At) (count c : ℕ) → Goes p.Either at c (step_piece p.Either at count c)
either_step at count c =
    cond_both (c == 113) _ _ (Goes p.Either at c)
    (λ e. at_option (next at k.Comparison) (λ o. Goes p.Either at c (on p.Spelled count o)) (λ n. tt)
    (λ t goes text (stops, come) some. subst (λ x. MayCome at (101 ∷ x ∷ text)) (sym (eqb-true c 113 e))
    (feed at t k.Comparison (101 ∷ 113 ∷ []) text goes (token.Word k.Comparison (101 ∷ 113 ∷ []) text (inl refl) stops) come)))
    (λ e. cond_both (c == 108) _ _ (Goes p.Either at c)
    (λ f. at_option (next at k.Else) (λ o. Goes p.Either at c (on (p.Word w.Se) count o)) (λ n. tt)
    (λ t goes text (rest, same, (stops, come)) some.
    as_text at (101 ∷ c ∷ text) ((101 ∷ 108 ∷ 115 ∷ 101 ∷ []) ++ rest) (ap (λ x. 101 ∷ x ∷ text) (eqb-true c 108 f) ∙ ap (λ l. 101 ∷ 108 ∷ l) same)
    (feed at t k.Else (101 ∷ 108 ∷ 115 ∷ 101 ∷ []) rest goes (token.Word k.Else (101 ∷ 108 ∷ 115 ∷ 101 ∷ []) rest (inl refl) stops) come)))
    (λ f. tt))

-- each step keeps what may come
pub steps_back : (piece : Piece) (at : At) (count c : ℕ) → Goes piece at c (step_piece piece at count c)
steps_back p.Ready at count c = begin_keeps at count c
steps_back (p.Named stage) at count c = name_steps stage at count c
steps_back (p.Digits pointed) at count c = digits_step pointed at count c
steps_back p.Point at count c = point_step at count c
steps_back p.MayEqual at count c =
    cond_both (c == 61) _ _ (Goes p.MayEqual at c) (λ e text come. inr (text, ap (λ x. x ∷ text) (eqb-true c 61 e), come))
    (λ e. ended p.MayEqual at count c (λ text come. inl (e, come)))
steps_back p.MustEqual at count c =
    cond_both (c == 61) _ _ (Goes p.MustEqual at c) (λ e text come. (text, ap (λ x. x ∷ text) (eqb-true c 61 e), come)) (λ e. tt)
steps_back (p.Text quote) at count c = text_step quote at count c
steps_back (p.Quoted quote) at count c = quoted_step quote at count c
steps_back (p.Word word) at count c = word_step word at count c
steps_back p.Order at count c =
    cond_both (c == 116 || c == 101) _ _ (Goes p.Order at c) (λ e text free. (c, text, refl, e, free)) (λ e. tt)
steps_back p.Either at count c = either_step at count c
steps_back p.Spelled at count c =
    cond_both (is_name_char c) _ _ (Goes p.Spelled at c) (λ e. tt) (λ e. ended p.Spelled at count c (λ text come. (e, come)))

end_come : (at : At) → may_end at ≡ true → MayCome at []
end_come at is = ([], ends_at_last at.mark at.opened is, tt)

end_of : (o : Option At) → may_end_if o ≡ true → (t : At) × (o ≡ Some t) × (may_end t ≡ true)
end_of None is = absurd (cc)
end_of (Some t) is = (t, refl, is)

-- nothing may come where the reader accepts
pub accepted_rest : (piece : Piece) (at : At) → accepts_piece piece at ≡ true → RestAt piece at []
accepted_rest p.Ready at is = end_come at is
accepted_rest (p.Named stage) at is = λ some word wrote. let (t, goes, ends) = end_of (named_at at stage) is in named at t stage word [] wrote goes (tt, end_come t ends)
accepted_rest (p.Digits pointed) at is = ([], [], refl, tt, (tt, end_come at is))
accepted_rest p.Point at is = λ some. let (t, goes, ends) = end_of (next at k.Dot) is in feed at t k.Dot (46 ∷ []) [] goes (token.OneDot [] tt) (end_come t ends)
accepted_rest p.MayEqual at is = inl (tt, end_come at is)
accepted_rest p.MustEqual at is = absurd (cc)
accepted_rest (p.Text quote) at is = absurd (cc)
accepted_rest (p.Quoted quote) at is = inl (tt, end_come at is)
accepted_rest (p.Word word) at is = absurd (cc)
accepted_rest p.Order at is = absurd (cc)
accepted_rest p.Either at is = absurd (cc)
accepted_rest p.Spelled at is = (tt, end_come at is)
