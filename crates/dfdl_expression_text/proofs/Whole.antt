-- The reader tells the expressions, over characters and over bytes.
use Rattle.std.proofs.Common.{◌≡◌, ◌⊎◌, ℕ, ◌+◌, ◌<◌, ◌≤◌, ◌==◌, ◌||◌, Bool, true, false, List, [], ◌∷◌, ◌++◌, length, take, get_or, if◌then◌else◌, Option, Some, None, Result, Ok, Err, IfOk, IfErr, IsErr, inl, inr, refl, ap, sym, subst, ◌∙◌, arith, encode_utf8}
use Rattle.std.specs.List.{flat_map}
use Rattle.std.specs.Char.{IsScalar}
use Rattle.std.proofs.lemmas.Bool.{cond_both, cases_lt, cases_Bool}
use Rattle.std.proofs.lemmas.List.{append-nil, take_all}
use Rattle.dfdl_fronts.specs.Fronts.{IsFront, IsPlace}
use Rattle.dfdl_layers.specs.Tellers.{Each, IsTeller, Keeps, go_on, run}
use Rattle.dfdl_layers.specs.Allowed.{Allowed, GoodAllowed, allowed_step, RestOfAllowed}
use Rattle.dfdl_layers.specs.Bytes.{Inside, between, byte_accepts, AnyByte, RestOfBytes}
use Rattle.dfdl_layers.specs.Causes.{IsRefused}
use Rattle.dfdl_layers.proofs.Told.{front, refused_at, refused_end, text_end}
use Rattle.dfdl_layers.proofs.BytesRun.{text_follows, Follows}
use Rattle.dfdl_xml_chars.specs.Characters.{is_allowed, is_name_start, is_name_char}
use Rattle.dfdl_xml_chars.specs.Beyond.{could_by}
use Rattle.dfdl_xml_chars.specs.DocumentReading.{ReadsCharacters, RestOfDocument, SoundDocument, document_step}
use Rattle.dfdl_xml_chars.proofs.Coding.{utf8_coding}
use Rattle.dfdl_xml_chars.proofs.Documents.{document_teller}
use Rattle.dfdl_xml_chars.proofs.Foresight.{utf8_foresight}
use Rattle.dfdl_expression_text.specs.declared.kind.Kind.{Kind}
use Rattle.dfdl_expression_text.specs.declared.kind.Kind.TheVariants as k
use Rattle.dfdl_expression_text.specs.declared.piece.Stage.{Stage}
use Rattle.dfdl_expression_text.specs.declared.piece.Piece.{Piece}
use Rattle.dfdl_expression_text.specs.declared.piece.Piece.TheVariants as p
use Rattle.dfdl_expression_text.specs.declared.piece.Word.TheVariants as w
use Rattle.dfdl_expression_text.specs.declared.piece.Class.{Class}
use Rattle.dfdl_expression_text.specs.declared.piece.Class.TheVariants as class
use Rattle.dfdl_expression_text.specs.Tokens.{is_digit, Spelled}
use Rattle.dfdl_expression_text.specs.Syntax.{Reads, spelling}
use Rattle.dfdl_expression_text.specs.Machine.{At, next, class_of, mark_of, State, start, on, begin, hold, or_at, word_begins, letter_begins, begin_by, begin_at, end_before}
use Rattle.dfdl_expression_text.specs.Machine.{stage_next, named_at, name_step, word_next, step_piece, step, accepts, beyond}
use Rattle.dfdl_expression_text.specs.Counting.{read_start, read_step, free_step, tokens_begun, count_behind}
use Rattle.dfdl_expression_text.specs.Syntax.{most_tokens}
use Rattle.dfdl_expression_text.specs.Expressions.{ReadsBytes, IsExpression}
use Rattle.dfdl_expression_text.specs.Limit.{least, beside, left_open, owed_all, owed_mark, is_within, limited, limited_step, limited_beyond}
use Rattle.std.proofs.Common.{nat_le}
use Rattle.std.proofs.lemmas.Bool.Decides.{nat_tests}
use Rattle.dfdl_expression_text.proofs.Texts.{MayCome, RestOf}
use Rattle.dfdl_expression_text.proofs.Steps.{steps_back, accepted_rest}
use Rattle.dfdl_expression_text.proofs.Lives.{lives, Within, within_lead, leads_within, wider}
use Rattle.dfdl_expression_text.proofs.High.{does_at, fits_at, limited_ok, limited_does, limited_fits}
use Rattle.dfdl_expression_text.proofs.Rises.{rises, accepted_least}
use Rattle.dfdl_expression_text.proofs.Runs.{Leads, expression_leads}

-- each refusal is told by one rule
abbrev Tells : Result State ℕ → Type 0
Tells r = IfErr r (λ m. m ≡ 3)

on_tells : (piece : Piece) (count : ℕ) (o : Option At) → Tells (on piece count o)
on_tells piece count None = refl
on_tells piece count (Some t) = tt

hold_tells : (piece : Piece) (count : ℕ) (at : At) (o : Option At) → Tells (hold piece count at o)
hold_tells piece count at None = refl
hold_tells piece count at (Some t) = tt

if_tells : (b : Bool) (x y : Result State ℕ) → Tells x → Tells y → Tells (if b then x else y)
if_tells true x y first second = first
if_tells false x y first second = second

word_tells : (at : At) (count c : ℕ) → Tells (word_begins at count c)
unfolding word_begins
word_tells at count c =
    if_tells (c == 97) _ _ (on_tells (p.Word w.Nd) (count + 1) (next at k.Junction))
    (if_tells (c == 111) _ _ (on_tells (p.Word w.R) (count + 1) (next at k.Junction))
    (if_tells (c == 100) _ _ (on_tells (p.Word w.Iv) (count + 1) (next at k.Calculation))
    (if_tells (c == 105) _ _ (on_tells (p.Word w.Div) (count + 1) (next at k.Calculation))
    (if_tells (c == 109) _ _ (on_tells (p.Word w.Od) (count + 1) (next at k.Calculation))
    (if_tells (c == 101) _ _ (hold_tells p.Either count at (or_at (next at k.Comparison) (next at k.Else)))
    (if_tells (c == 110) _ _ (on_tells (p.Word w.E) (count + 1) (next at k.Comparison))
    (if_tells (c == 108 || c == 103) _ _ (on_tells p.Order (count + 1) (next at k.Comparison))
    (if_tells (c == 116) _ _ (on_tells (p.Word w.Hen) (count + 1) (next at k.Then)) refl))))))))

letter_tells : (at : At) (count c : ℕ) (o : Option At) → Tells (letter_begins at count c o)
letter_tells at count c None = word_tells at count c
letter_tells at count c (Some t) = tt

class_tells : (cl : Class) (at : At) (count c : ℕ) → Tells (begin_by cl at count c)
class_tells class.White at count c = tt
class_tells (class.Sign kind) at count c = on_tells p.Ready (count + 1) (next at kind)
class_tells (class.Quote quote) at count c = on_tells (p.Text quote) (count + 1) (next at k.Literal)
class_tells class.Digit at count c = on_tells (p.Digits false) (count + 1) (next at k.Literal)
class_tells class.Point at count c = hold_tells p.Point count at (next at k.Dot)
class_tells class.Angle at count c = on_tells p.MayEqual (count + 1) (next at k.Comparison)
class_tells class.Bang at count c = on_tells p.MustEqual (count + 1) (next at k.Comparison)
class_tells class.Letter at count c = letter_tells at count c (next at k.Name)
class_tells class.Other at count c = refl

begin_tells : (at : At) (count c : ℕ) → Tells (begin_at at count c)
begin_tells at count c = class_tells (class_of c) at count c

end_tells : (o : Option At) (count c : ℕ) → Tells (end_before o count c)
end_tells None count c = refl
end_tells (Some t) count c = begin_tells t count c

name_tells : (o : Option Stage) (stage : Stage) (at : At) (count c : ℕ) → Tells (name_step o stage at count c)
name_tells (Some other) stage at count c = tt
name_tells None stage at count c = end_tells (named_at at stage) count c

step_tells : (piece : Piece) (at : At) (count c : ℕ) → Tells (step_piece piece at count c)
step_tells p.Ready at count c = begin_tells at count c
step_tells (p.Named stage) at count c = name_tells (stage_next stage c) stage at count c
step_tells (p.Digits pointed) at count c =
    if_tells (is_digit c) _ _ tt (if_tells (c == 46) _ _ (if_tells pointed _ _ refl tt) (if_tells (is_name_start c) _ _ refl (begin_tells at count c)))
step_tells p.Point at count c =
    if_tells (c == 46) _ _ (on_tells p.Ready count (next at k.Dot))
    (if_tells (is_digit c) _ _ (on_tells (p.Digits true) count (next at k.Literal)) (end_tells (next at k.Dot) count c))
step_tells p.MayEqual at count c = if_tells (c == 61) _ _ tt (begin_tells at count c)
step_tells p.MustEqual at count c = if_tells (c == 61) _ _ tt refl
step_tells (p.Text quote) at count c = tt
step_tells (p.Quoted quote) at count c = if_tells (c == mark_of quote) _ _ tt (begin_tells at count c)
step_tells (p.Word word) at count c = if_tells (c == (word_next word).0) _ _ tt refl
step_tells p.Order at count c = if_tells (c == 116 || c == 101) _ _ tt refl
step_tells p.Either at count c =
    if_tells (c == 113) _ _ (on_tells p.Spelled count (next at k.Comparison)) (if_tells (c == 108) _ _ (on_tells (p.Word w.Se) count (next at k.Else)) refl)
step_tells p.Spelled at count c = if_tells (is_name_char c) _ _ refl (begin_tells at count c)

-- what may follow by the rules below n
Follow : ℕ → State → List ℕ → Type 0
Follow n s text = 3 < n → RestOf s text

follow_of : (n : ℕ) (s : State) (text : List ℕ) → (3 < n → RestOf s text) → Follow n s text
unfolding Follow
follow_of n s text rest = rest

rest_of : (n : ℕ) (s : State) (text : List ℕ) → Follow n s text → 3 < n → RestOf s text
unfolding Follow
rest_of n s text follow = follow

-- an expression may come at the start, and nothing else may
reads_of : (text : List ℕ) → RestOf start text → (count : ℕ) × Reads count text
reads_of text (kinds, (e, rest, same, nothing), spelled) =
    let whole : kinds ≡ spelling e = same ∙ (ap (λ l. spelling e ++ l) nothing ∙ append-nil (spelling e)) in
    (length (spelling e), record { expression = e; spelled = subst (λ l. Spelled l text) whole spelled; counted = refl })

of_reads : (text : List ℕ) (count : ℕ) → Reads count text → RestOf start text
of_reads text count reads =
    (spelling reads.expression, (reads.expression, [], sym (append-nil (spelling reads.expression)), refl), reads.spelled)

err_is : (r : Result State ℕ) (m : ℕ) → Tells r → r ≡ Err m → m ≡ 3
err_is r m tells is = let told : Tells (Err m) = subst Tells is tells in told

low_kept : (go : State → ℕ → Result State ℕ) → ((s : State) (c : ℕ) → Tells (go s c)) → (n : ℕ) (text : List ℕ) (s : State) → n ≤ 3 → Keeps n (run go s text)
low_kept go tells n [] s low = tt
low_kept go tells n (c ∷ text) s low =
    elim (go s c) as (λ r. Tells r → Keeps n (go_on (λ t. run go t text) r)) [
      | Ok t ↦ (λ told. low_kept go tells n text t low)
      | Err m ↦ (λ told. omega arith)
    ] (tells s c)

whole_leads : (text : List ℕ) → RestOf start text → (t : State) × (run step start text ≡ Ok t) × (accepts t ≡ true)
whole_leads text rest =
    let (count, reads) = reads_of text rest in
    let l = expression_leads count text reads in
    (l.last, l.runs, l.ends)

keeps_all : (n : ℕ) (text : List ℕ) → Follow n start text → Keeps n (run step start text)
keeps_all n text follow = elim (cases_lt 3 n) [
  | inl more ↦ (let (t, runs, ends) = whole_leads text (rest_of n start text follow more) in subst (λ r. Keeps n r) (sym runs) tt)
  | inr few ↦ low_kept step (λ s c. step_tells s.piece s.at s.count c) n text start (omega (arith, few))
]

AnyState : State → Type 0
AnyState s = Unit {0}

any_state : (s : State) → AnyState s
unfolding AnyState
any_state s = tt

reads : ReadsCharacters step start accepts 4 AnyState Follow beyond
reads = record {
  teller = record {
    begins = any_state start;
    goes = λ s t c sound is. any_state t;
    back = λ n s t c text sound is follow. follow_of n s (c ∷ text) (λ more.
        (subst (λ r. IfOk r (λ u. (l : List ℕ) → RestOf u l → RestOf s (c ∷ l))) is (steps_back s.piece s.at s.count c)) text (rest_of n t text follow more));
    done = λ s sound ends. follow_of 4 s [] (λ more. accepted_rest s.piece s.at ends);
    live = λ s sound. (let (more, good, rest, within) = lives s.piece s.at in (more, good, follow_of 4 s more (λ past. rest)));
    tells = λ s c m sound good is. (let told = err_is (step s c) m (step_tells s.piece s.at s.count c) is in ([], tt, follow_of m s (c ∷ []) (λ past. absurd (omega arith))));
    keeps = keeps_all;
    full = λ text follow. whole_leads text (rest_of 4 start text follow (omega arith));
  };
  free = λ n s characters few. follow_of n s characters (λ more. absurd (omega arith));
  fits = λ s sound. fits_at s.piece s.at;
  does = λ s c sound high scalar allowed. does_at s.piece s.at s.count c high;
}

-- the tokens of an expression are counted
allowed_same : (text : List ℕ) (s : State) → Each (Allowed is_allowed) text → run (allowed_step 2 is_allowed step) s text ≡ run step s text
allowed_same [] s each = refl
allowed_same (c ∷ text) s each =
    ap (λ b. go_on (λ t. run (allowed_step 2 is_allowed step) t text) (if b then step s c else Err 2)) each.0
    ∙ elim (step s c) as (λ r. go_on (λ t. run (allowed_step 2 is_allowed step) t text) r ≡ go_on (λ t. run step t text) r) [
      | Ok t ↦ allowed_same text t each.1
      | Err m ↦ refl
    ]

counted : (count : ℕ) (bytes : List ℕ) → ReadsBytes count bytes → tokens_begun bytes ≡ count
unfolding free_step
counted count bytes long =
    let l = expression_leads count long.characters long.reads in
    let runs : run (allowed_step 2 is_allowed step) start long.characters ≡ Ok l.last = allowed_same long.characters start long.allowed ∙ l.runs in
    let follows : Follows (run (allowed_step 2 is_allowed step) start long.characters) (run free_step read_start (flat_map encode_utf8 long.characters)) =
    text_follows 1 (λ s t c sound is. any_state t) utf8_coding (utf8_foresight 2 step beyond AnyState (reads.fits) (reads.does)) long.characters start (any_state start) long.are_scalar in
    let ends : run free_step read_start (flat_map encode_utf8 long.characters) ≡ Ok (between l.last) = subst (λ r. Follows r (run free_step read_start (flat_map encode_utf8 long.characters))) runs follows in
    ap (λ b. count_behind (run free_step read_start b)) long.encoded ∙ (ap count_behind ends ∙ l.counted)

-- so there is one number of them
pub counted_once : (first second : ℕ) (bytes : List ℕ) → ReadsBytes first bytes → ReadsBytes second bytes → first ≡ second
counted_once first second bytes one other = sym (counted first bytes one) ∙ counted second bytes other

-- under the limit
limited_tells : (r : Result State ℕ) → Tells r → Tells (limited r)
limited_tells (Ok t) told = if_tells (is_within t) _ _ tt refl
limited_tells (Err m) told = told

-- what a limited step comes to is what the step does, and needs few tokens
limited_to : (r : Result State ℕ) (t : State) → limited r ≡ Ok t → (r ≡ Ok t) × (least t ≤ most_tokens)
limited_to (Err m) t is = absurd (cc)
limited_to (Ok u) t is = elim (cases_Bool (is_within u)) [
  | inl yes_within ↦ (
      let goes : Ok u ≡ Ok t = sym (ap (λ b. if b then Ok u else Err 3) yes_within) ∙ is in
      let same : u ≡ t = cc in
      let few : least u ≤ most_tokens = grind (arith, nat_tests) in
      (goes, subst (λ v. least v ≤ most_tokens) same few)
      )
  | inr past ↦ absurd (let never : Err 3 ≡ Ok t = sym (ap (λ b. if b then Ok u else Err 3) past) ∙ is in cc)
]

-- what a run comes to needs as many tokens as where it began
run_rises : (text : List ℕ) (s t : State) → run step s text ≡ Ok t → least s ≤ least t
run_rises [] s t runs = let same : s ≡ t = cc in let little : least s ≤ least s = omega arith in subst (λ u. least s ≤ least u) same little
run_rises (c ∷ text) s t runs =
    elim (step s c) as (λ r. IfOk r (λ u. least s ≤ least u) → go_on (λ u. run step u text) r ≡ Ok t → least s ≤ least t) [
      | Ok u ↦ (λ first others. let more = run_rises text u t others in omega arith)
      | Err m ↦ (λ first others. absurd (cc))
    ] (rises s.piece s.at s.count c) runs

stays : (text : List ℕ) (s t : State) → run step s text ≡ Ok t → least t ≤ most_tokens → run limited_step s text ≡ Ok t
stays [] s t runs few = runs
stays (c ∷ text) s t runs few =
    elim (step s c) as (λ r. go_on (λ u. run step u text) r ≡ Ok t → go_on (λ u. run limited_step u text) (limited r) ≡ Ok t) [
      | Ok u ↦ (λ others.
          let more = run_rises text u t others in
          let fewer : least u ≤ most_tokens = omega arith in
          ap (go_on (λ v. run limited_step v text)) (limited_ok u fewer) ∙ stays text u t others few)
      | Err m ↦ (λ others. absurd (cc))
    ] runs

-- what may follow by the rules below n
LimitedFollow : ℕ → State → List ℕ → Type 0
LimitedFollow n s text = 3 < n → RestOf s text × Within most_tokens s text

limited_follow : (n : ℕ) (s : State) (text : List ℕ) → (3 < n → RestOf s text × Within most_tokens s text) → LimitedFollow n s text
unfolding LimitedFollow
limited_follow n s text rest = rest

limited_rest : (n : ℕ) (s : State) (text : List ℕ) → LimitedFollow n s text → 3 < n → RestOf s text × Within most_tokens s text
unfolding LimitedFollow
limited_rest n s text follow = follow

-- the states that the reader comes to
pub IsFew : State → Type 0
IsFew s = least s ≤ most_tokens

is_few : (s : State) → least s ≤ most_tokens → IsFew s
unfolding IsFew
is_few s few = few

few_of : (s : State) → IsFew s → least s ≤ most_tokens
unfolding IsFew
few_of s few = few

few_counted : (s : State) → IsFew s → s.count ≤ most_tokens
few_counted s few = let fewer = few_of s few in omega arith

limited_leads : (text : List ℕ) → RestOf start text → Within most_tokens start text → (t : State) × (run limited_step start text ≡ Ok t) × (accepts t ≡ true)
limited_leads text rest within =
    let (t, runs, ends) = whole_leads text rest in
    let counted : t.count ≤ most_tokens = subst (λ r. IfOk r (λ u. u.count ≤ most_tokens)) runs within in
    let last = accepted_least t.piece t.at t.count ends in
    let few : least t ≤ most_tokens = omega arith in
    (t, stays text start t runs few, ends)

limited_keeps : (n : ℕ) (text : List ℕ) → LimitedFollow n start text → Keeps n (run limited_step start text)
limited_keeps n text follow = elim (cases_lt 3 n) [
  | inl more ↦ (let (rest, within) = limited_rest n start text follow more in
      let (t, runs, ends) = limited_leads text rest within in subst (λ r. Keeps n r) (sym runs) tt)
  | inr few ↦ low_kept limited_step (λ s c. limited_tells (step s c) (step_tells s.piece s.at s.count c)) n text start (omega (arith, few))
]

limited_back : (s t : State) (c : ℕ) (text : List ℕ) → step s c ≡ Ok t → RestOf t text × Within most_tokens t text → RestOf s (c ∷ text) × Within most_tokens s (c ∷ text)
limited_back s t c text is (rest, within) =
    ((subst (λ r. IfOk r (λ u. (l : List ℕ) → RestOf u l → RestOf s (c ∷ l))) is (steps_back s.piece s.at s.count c)) text rest, within_lead most_tokens s t c text is within)

limited_reads : ReadsCharacters limited_step start accepts 4 IsFew LimitedFollow limited_beyond
limited_reads = record {
  teller = record {
    begins = is_few start (omega arith);
    goes = λ s t c sound is. is_few t ((limited_to (step s c) t is).1);
    back = λ n s t c text sound is follow. limited_follow n s (c ∷ text) (λ more.
        limited_back s t c text ((limited_to (step s c) t is).0) (limited_rest n t text follow more));
    done = λ s sound ends. limited_follow 4 s [] (λ more. (accepted_rest s.piece s.at ends, few_counted s sound));
    live = λ s sound. (let (more, good, rest, within) = lives s.piece s.at in
        (more, good, limited_follow 4 s more (λ past. (rest, wider (run step s more) (least s) most_tokens (few_of s sound) (within s.count)))));
    tells = λ s c m sound good is. (let told = err_is (limited (step s c)) m (limited_tells (step s c) (step_tells s.piece s.at s.count c)) is in
        ([], tt, limited_follow m s (c ∷ []) (λ past. absurd (omega arith))));
    keeps = limited_keeps;
    full = λ text follow. (let (rest, within) = limited_rest 4 start text follow (omega arith) in limited_leads text rest within);
  };
  free = λ n s characters few. limited_follow n s characters (λ more. absurd (omega arith));
  fits = λ s sound. limited_fits s.piece s;
  does = λ s c sound high scalar allowed. limited_does s.piece s.at s.count c (few_of s sound) high;
}

abbrev pub SoundRead : Inside State → Type 0
SoundRead = SoundDocument limited_beyond IsFew

teller : IsTeller read_step read_start (byte_accepts accepts) 4 AnyByte SoundRead (RestOfDocument LimitedFollow)
unfolding read_step
teller = document_teller limited_reads (omega arith)

-- the reader stands soundly, and has counted few tokens
pub begins_soundly : SoundRead read_start
begins_soundly = teller.begins

pub goes_soundly : (i j : Inside State) (b : ℕ) → SoundRead i → read_step i b ≡ Ok j → SoundRead j
goes_soundly i j b sound is = teller.goes i j b sound is

pub counts_few : (i : Inside State) → SoundRead i → i.state.count ≤ most_tokens
counts_few i sound = few_counted i.state sound.sound

expression_of : (bytes : List ℕ) → RestOfDocument LimitedFollow 4 read_start bytes → IsExpression bytes
expression_of bytes rest =
    let (more, within) = limited_rest 4 start rest.characters rest.rest.rest (omega arith) in
    let (count, read) = reads_of rest.characters more in
    let leads = expression_leads count rest.characters read in
    let last : leads.last.count ≤ most_tokens = subst (λ r. IfOk r (λ u. u.count ≤ most_tokens)) leads.runs within in
    let same = leads.counted in
    let few : count ≤ most_tokens = omega arith in (
      count,
      few,
      record {
        characters = rest.characters;
        are_scalar = rest.are_scalar (omega arith);
        encoded = rest.encoded (omega arith);
        allowed = rest.rest.allowed (omega arith);
        reads = read;
      },
    )

of_expression : (bytes : List ℕ) → IsExpression bytes → RestOfDocument LimitedFollow 4 read_start bytes
of_expression bytes (count, few, long) = record {
  characters = long.characters;
  are_scalar = λ past. long.are_scalar;
  encoded = λ past. long.encoded;
  rest = record {
    allowed = λ past. long.allowed;
    rest = limited_follow 4 start long.characters (λ past.
        (of_reads long.characters count long.reads, leads_within most_tokens count start long.characters (expression_leads count long.characters long.reads) few));
  };
}

place_of : (bytes : List ℕ) (at : ℕ) → IsPlace (RestOfDocument LimitedFollow 4 read_start) bytes at → IsPlace IsExpression bytes at
place_of bytes at place = record {
  within = place.within;
  before = (place.before.0, expression_of (take at bytes ++ place.before.0) place.before.1);
  stops = λ less text. place.stops less (text.0, of_expression (take (at + 1) bytes ++ text.0) text.1);
  no_text = λ text. place.no_text (of_expression bytes text);
}

-- a refused byte
pub stuck_at : (bytes : List ℕ) (at : ℕ) (i : Inside State) → at < length bytes → run read_step read_start (take at bytes) ≡ Ok i
    → IsErr (read_step i (get_or bytes at 0)) → IsPlace IsExpression bytes at
stuck_at bytes at i within runs refused =
    let (m, is) = known (read_step i (get_or bytes at 0)) refused in
    place_of bytes at ((refused_at teller bytes at i 0 m within runs tt is).place)
  where
    known : (r : Result (Inside State) ℕ) → IsErr r → (m : ℕ) × (r ≡ Err m)
    known (Ok t) is = absurd (cc)
    known (Err m) is = (m, refl)

-- an end at which none may end
pub stuck_end : (bytes : List ℕ) (i : Inside State) → run read_step read_start bytes ≡ Ok i → byte_accepts accepts i ≡ false
    → IsPlace IsExpression bytes (length bytes)
stuck_end bytes i runs refused = place_of bytes (length bytes) ((refused_end teller bytes i runs refused).place)

-- a text that is run through and accepted
pub whole_text : (bytes : List ℕ) (i : Inside State) → run read_step read_start bytes ≡ Ok i → byte_accepts accepts i ≡ true → IsExpression bytes
whole_text bytes i runs ends = expression_of bytes (text_end teller bytes i runs ends)

-- each text is an expression, or it isn't one
pub decided : (bytes : List ℕ) → IsExpression bytes ⊎ (IsExpression bytes → ⊥)
decided bytes = by_run (run read_step read_start bytes) refl
  where
    by_end : (i : Inside State) → run read_step read_start bytes ≡ Ok i → (ends : Bool) → byte_accepts accepts i ≡ ends
        → IsExpression bytes ⊎ (IsExpression bytes → ⊥)
    by_end i runs true ends = inl (whole_text bytes i runs ends)
    by_end i runs false ends = inr ((stuck_end bytes i runs ends).no_text)

    by_run : (r : Result (Inside State) ℕ) → run read_step read_start bytes ≡ r → IsExpression bytes ⊎ (IsExpression bytes → ⊥)
    by_run (Ok i) runs = by_end i runs (byte_accepts accepts i) refl
    by_run (Err m) runs = inr (λ text.
        let through = teller.full bytes (of_expression bytes text) in
        let never : Err m ≡ Ok through.0 = sym runs ∙ through.1 in
        absurd (cc))
