-- Which characters may come at a state, and that each step keeps it.
use Rattle.std.proofs.Common.{◌≡◌, ℕ, ◌==◌, ◌&&◌, ◌||◌, not, Bool, true, false, if◌then◌else◌, List, [], ◌∷◌, ◌++◌, ◌⊎◌, inl, inr, Option, Some, None, Result, Ok, Err, IfSome, IfOk, IsSome, refl, ap, sym, subst, ◌∙◌, append_assoc}
use Rattle.std.proofs.lemmas.Bool.{cond_both, eqb-true, cases_Bool}
use Rattle.std.proofs.lemmas.List.{append-nil}
use Rattle.dfdl_layers.specs.Tellers.{Each}
use Rattle.dfdl_layers.proofs.Runs.{each-append}
use Rattle.dfdl_xml_chars.specs.Characters.{is_name_start, is_name_char}
use Rattle.dfdl_expression_text.specs.declared.kind.Kind.{Kind}
use Rattle.dfdl_expression_text.specs.declared.kind.Kind.TheVariants as k
use Rattle.dfdl_expression_text.specs.declared.piece.Stage.{Stage}
use Rattle.dfdl_expression_text.specs.declared.piece.Stage.TheVariants.{AfterI, AfterIf, First, Colon, Second}
use Rattle.dfdl_expression_text.specs.declared.piece.Word.{Word}
use Rattle.dfdl_expression_text.specs.declared.piece.Word.TheVariants as w
use Rattle.dfdl_expression_text.specs.declared.piece.Quote.{Quote}
use Rattle.dfdl_expression_text.specs.declared.piece.Quote.TheVariants.{Single, Double}
use Rattle.dfdl_expression_text.specs.declared.piece.Piece.{Piece}
use Rattle.dfdl_expression_text.specs.declared.piece.Piece.TheVariants as p
use Rattle.dfdl_expression_text.specs.declared.piece.Class.{Class}
use Rattle.dfdl_expression_text.specs.declared.piece.Class.TheVariants as class
use Rattle.dfdl_expression_text.specs.Tokens.{is_white, is_digit, is_quote, AllPass, Stops, IsPart, IsPrefixed, IsName, is_if, IsDigits, IsNumber, IsQuoted}
use Rattle.dfdl_expression_text.specs.Tokens.{signs, words, IsOneOf, sticks, IsToken, Spelled}
use Rattle.dfdl_expression_text.specs.Tokens as token
use Rattle.dfdl_expression_text.specs.Machine.{At, next, may_end, may_end_if, sign_of, class_of, mark_of, State, on, begin, hold, or_at, word_begins, letter_begins}
use Rattle.dfdl_expression_text.specs.Machine.{begin_by, begin_at, end_before, stage_next, named_at, name_step, word_next, step_piece, step, accepts, accepts_piece}
use Rattle.dfdl_expression_text.proofs.Comes.{Comes, back_at, ends_at_last}

-- tokens may come here that spell the text
abbrev pub MayCome : At → List ℕ → Type 0
MayCome at text = (kinds : List Kind) × Comes at kinds × Spelled kinds text

-- what is known of an option is known of what it is
pub at_option : {A : Type 0} (o : Option A) (M : Option A → Type 0) → (o ≡ None → M None) → ((a : A) → o ≡ Some a → M (Some a)) → M o
at_option None M none some = none refl
at_option (Some a) M none some = some a refl

-- the same text
pub as_text : (s : At) (text other : List ℕ) → text ≡ other → MayCome s other → MayCome s text
as_text s text other same come = subst (λ l. MayCome s l) (sym same) come

-- a token before what may come behind it
pub feed : (s t : At) (kind : Kind) (word rest : List ℕ) → next s kind ≡ Some t → IsToken kind word rest → MayCome t rest → MayCome s (word ++ rest)
feed s t kind word rest goes token (kinds, from, spelled) =
    let back : Comes t kinds → Comes s (kind ∷ kinds) =
    subst (λ o. IfSome o (λ u. Comes u kinds → Comes s (kind ∷ kinds))) goes (back_at s.mark s.opened kind kinds) in
    (kind ∷ kinds, back from, ([], word, rest, refl, tt, token, spelled))

-- white space before what may come
pub whiten : (s : At) (c : ℕ) (text : List ℕ) → is_white c ≡ true → MayCome s text → MayCome s (c ∷ text)
whiten s c text is ([], from, spelled) = ([], from, (is, spelled))
whiten s c text is (kind ∷ kinds, from, (space, word, rest, same, white, token, spelled)) =
    (kind ∷ kinds, from, (c ∷ space, word, rest, ap (λ l. c ∷ l) same, (is, white), token, spelled))

-- the word doesn't begin as `if` does, or is longer
abbrev pub plain : List ℕ → Bool
plain [] = false
plain (c ∷ []) = not (c == 105)
plain (c ∷ d ∷ []) = not (c == 105 && d == 102)
plain (c ∷ d ∷ e ∷ rest) = true

pub plain_more : (word : List ℕ) (c : ℕ) → plain word ≡ true → plain (word ++ c ∷ []) ≡ true
plain_more [] c is = absurd (cc)
plain_more (a ∷ []) c is = elim (a == 105) as (λ b. not b ≡ true → not (b && c == 102) ≡ true) [ true ↦ (λ h. absurd (cc)) | false ↦ (λ h. refl) ] is
plain_more (a ∷ b ∷ []) c is = refl
plain_more (a ∷ b ∷ d ∷ rest) c is = refl

pub plain_apart : (word : List ℕ) → plain word ≡ true → is_if word ≡ false
plain_apart [] is = refl
plain_apart (a ∷ []) is = refl
plain_apart (a ∷ b ∷ []) is = elim (a == 105 && b == 102) as (λ t. not t ≡ true → t ≡ false) [ true ↦ (λ h. absurd (cc)) | false ↦ (λ h. refl) ] is
plain_apart (a ∷ b ∷ d ∷ rest) is = refl

-- a name with a colon isn't `if`
pub prefixed_apart : (word : List ℕ) → IsPrefixed word → is_if word ≡ false
prefixed_apart word name = ap is_if name.spelled ∙ apart name.prefix name.part name.is_prefix name.is_part
  where
    apart : (first second : List ℕ) → IsPart first → IsPart second → is_if (first ++ 58 ∷ second) ≡ false
    apart [] second a b = absurd a
    apart (x ∷ []) [] a b = absurd b
    apart (x ∷ []) (y ∷ ys) a b = refl
    apart (x ∷ z ∷ []) ys a b = refl
    apart (x ∷ z ∷ u ∷ us) ys a b = refl

-- what was read of a name
abbrev pub Wrote : Stage → List ℕ → Type 0
Wrote AfterI word = word ≡ 105 ∷ []
Wrote AfterIf word = word ≡ 105 ∷ 102 ∷ []
Wrote First word = IsPart word × (plain word ≡ true)
Wrote Colon word = (part : List ℕ) × IsPart part × (word ≡ part ++ 58 ∷ [])
Wrote Second word = IsPrefixed word

-- the letters that are still to come
abbrev pub letters : Word → List ℕ
letters w.D = 100 ∷ []
letters w.Nd = 110 ∷ 100 ∷ []
letters w.Od = 111 ∷ 100 ∷ []
letters w.V = 118 ∷ []
letters w.Iv = 105 ∷ 118 ∷ []
letters w.Div = 100 ∷ 105 ∷ 118 ∷ []
letters w.R = 114 ∷ []
letters w.E = 101 ∷ []
letters w.Se = 115 ∷ 101 ∷ []
letters w.N = 110 ∷ []
letters w.En = 101 ∷ 110 ∷ []
letters w.Hen = 104 ∷ 101 ∷ 110 ∷ []

abbrev pub is_equals : ℕ → Bool
is_equals c = c == 61

-- the text ends here and what may come behind it comes
abbrev pub Free : (ℕ → Bool) → At → List ℕ → Type 0
Free test at text = Stops test text × MayCome at text

abbrev pub Equals : At → List ℕ → Type 0
Equals at text = (rest : List ℕ) × (text ≡ 61 ∷ rest) × MayCome at rest

abbrev pub InQuotes : ℕ → At → List ℕ → Type 0
InQuotes quote at text = (word : List ℕ) × (rest : List ℕ) × (text ≡ word ++ rest) × IsQuoted quote word × Free (λ c. c == quote) at rest

-- what may come behind an open piece
abbrev pub RestAt : Piece → At → List ℕ → Type 0
RestAt p.Ready at text = MayCome at text
RestAt (p.Named stage) at text = IsSome (next at k.Name) → (word : List ℕ) → Wrote stage word → MayCome at (word ++ text)
RestAt (p.Digits pointed) at text = (word : List ℕ) × (rest : List ℕ) × (text ≡ word ++ rest) × IsDigits pointed word × Free sticks at rest
RestAt p.Point at text = IsSome (next at k.Dot) → MayCome at (46 ∷ text)
RestAt p.MayEqual at text = Free is_equals at text ⊎ Equals at text
RestAt p.MustEqual at text = Equals at text
RestAt (p.Text quote) at text = InQuotes (mark_of quote) at text
RestAt (p.Quoted quote) at text =
    Free (λ c. c == mark_of quote) at text ⊎ ((rest : List ℕ) × (text ≡ mark_of quote ∷ rest) × InQuotes (mark_of quote) at rest)
RestAt (p.Word word) at text = (rest : List ℕ) × (text ≡ letters word ++ rest) × Free is_name_char at rest
RestAt p.Order at text = (c : ℕ) × (rest : List ℕ) × (text ≡ c ∷ rest) × ((c == 116 || c == 101) ≡ true) × Free is_name_char at rest
RestAt p.Either at text = IsSome (or_at (next at k.Comparison) (next at k.Else)) → MayCome at (101 ∷ text)
RestAt p.Spelled at text = Free is_name_char at text

-- what may come at a state
abbrev pub RestOf : State → List ℕ → Type 0
RestOf s text = RestAt s.piece s.at text

-- what the class of a character says of it
abbrev pub Says : Class → ℕ → Type 0
Says class.White c = is_white c ≡ true
Says (class.Sign kind) c = IsOneOf (signs kind) (c ∷ [])
Says (class.Quote quote) c = c ≡ mark_of quote
Says class.Digit c = is_digit c ≡ true
Says class.Point c = c ≡ 46
Says class.Angle c = (c == 60 || c == 62) ≡ true
Says class.Bang c = c ≡ 33
Says class.Letter c = is_name_start c ≡ true
Says class.Other c = Unit {0}

abbrev Sure : Bool → Class → Class → ℕ → Type 0
Sure test cl last c = (test ≡ true → Says cl c) → Says last c → Says (if test then cl else last) c

sure : (test : Bool) (cl last : Class) (c : ℕ) → Sure test cl last c
sure true cl last c then_so or_so = then_so refl
sure false cl last c then_so or_so = or_so

-- the character is this sign
signed : (kind : Kind) (c d : ℕ) → IsOneOf (signs kind) (d ∷ []) → (c == d) ≡ true → IsOneOf (signs kind) (c ∷ [])
signed kind c d is same = subst (λ x. IsOneOf (signs kind) (x ∷ [])) (sym (eqb-true c d same)) is

either_sign : (c : ℕ) → (c == 43 || c == 42) ≡ true → IsOneOf (signs k.Calculation) (c ∷ [])
either_sign c is = elim (cases_Bool (c == 43)) [
  | inl e ↦ signed k.Calculation c 43 (inl refl) e
  | inr e ↦ signed k.Calculation c 42 (inr (inl refl)) (subst (λ b. (b || c == 42) ≡ true) e is)
]

says_signs : (c : ℕ) → Says (sign_of c) c
unfolding sign_of
says_signs c =
    sure (c == 36) (class.Sign k.Dollar) _ c (signed k.Dollar c 36 (inl refl))
    (sure (c == 47) (class.Sign k.Slash) _ c (signed k.Slash c 47 (inl refl))
    (sure (c == 40) (class.Sign k.Open) _ c (signed k.Open c 40 (inl refl))
    (sure (c == 41) (class.Sign k.Close) _ c (signed k.Close c 41 (inl refl))
    (sure (c == 44) (class.Sign k.Comma) _ c (signed k.Comma c 44 (inl refl))
    (sure (c == 91) (class.Sign k.OpenIndex) _ c (signed k.OpenIndex c 91 (inl refl))
    (sure (c == 93) (class.Sign k.CloseIndex) _ c (signed k.CloseIndex c 93 (inl refl))
    (sure (c == 45) (class.Sign k.Minus) _ c (signed k.Minus c 45 (inl refl))
    (sure (c == 43 || c == 42) (class.Sign k.Calculation) _ c (either_sign c)
    (sure (c == 61) (class.Sign k.Comparison) class.Other c (signed k.Comparison c 61 (inl refl)) tt)))))))))

pub says : (c : ℕ) → Says (class_of c) c
unfolding class_of
says c =
    sure (is_white c) class.White _ c (λ e. e)
    (sure (c == 39) (class.Quote Single) _ c (eqb-true c 39)
    (sure (c == 34) (class.Quote Double) _ c (eqb-true c 34)
    (sure (is_digit c) class.Digit _ c (λ e. e)
    (sure (c == 46) class.Point _ c (eqb-true c 46)
    (sure (c == 60 || c == 62) class.Angle _ c (λ e. e)
    (sure (c == 33) class.Bang _ c (eqb-true c 33)
    (sure (is_name_start c) class.Letter _ c (λ e. e) (says_signs c))))))))

is_mark : (quote : Quote) → is_quote (mark_of quote) ≡ true
is_mark Single = refl
is_mark Double = refl

-- a `<` or `>` and a `=` are a comparison
angle_equals : (c : ℕ) → (c == 60 || c == 62) ≡ true → IsOneOf (signs k.Comparison) (c ∷ 61 ∷ [])
angle_equals c is = elim (cases_Bool (c == 60)) [
  | inl e ↦ subst (λ x. IsOneOf (signs k.Comparison) (x ∷ 61 ∷ [])) (sym (eqb-true c 60 e)) (inr (inr (inl refl)))
  | inr e ↦ subst (λ x. IsOneOf (signs k.Comparison) (x ∷ 61 ∷ [])) (sym (eqb-true c 62 (subst (λ b. (b || c == 62) ≡ true) e is))) (inr (inr (inr (inl refl))))
]

pub some_known : {A : Type 0} (o : Option A) (a : A) → o ≡ Some a → IsSome o
some_known o a is = subst (λ x. IsSome x) (sym is) refl

-- what a step from here comes to is kept
abbrev pub Keeps : At → ℕ → Result State ℕ → Type 0
Keeps at c r = IfOk r (λ t. (text : List ℕ) → RestOf t text → MayCome at (c ∷ text))

-- a word of these letters behind its first one
word_keeps : (at : At) (count c : ℕ) (d : ℕ) (word : Word) (kind : Kind) → (c == d) ≡ true → IsOneOf (words kind) (d ∷ letters word)
    → Keeps at c (begin (p.Word word) count (next at kind))
word_keeps at count c d word kind is named =
    at_option (next at kind) (λ o. Keeps at c (begin (p.Word word) count o)) (λ e. tt)
    (λ t goes text (rest, same, (stops, come)).
    subst (λ x. MayCome at (x ∷ text)) (sym (eqb-true c d is))
    (as_text at (d ∷ text) ((d ∷ letters word) ++ rest) (ap (λ l. d ∷ l) same)
    (feed at t kind (d ∷ letters word) rest goes (token.Word kind (d ∷ letters word) rest named stops) come)))

ordered : (c d : ℕ) → (c == 108 || c == 103) ≡ true → (d == 116 || d == 101) ≡ true → IsOneOf (words k.Comparison) (c ∷ d ∷ [])
ordered c d first second =
    elim (cases_Bool (c == 108)) [
      | inl e ↦ subst (λ x. IsOneOf (words k.Comparison) (x ∷ d ∷ [])) (sym (eqb-true c 108 e)) (elim (cases_Bool (d == 116)) [
        | inl f ↦ subst (λ x. IsOneOf (words k.Comparison) (108 ∷ x ∷ [])) (sym (eqb-true d 116 f)) (inr (inr (inl refl)))
        | inr f ↦ subst (λ x. IsOneOf (words k.Comparison) (108 ∷ x ∷ [])) (sym (eqb-true d 101 (subst (λ b. (b || d == 101) ≡ true) f second))) (inr (inr (inr (inl refl))))
      ])
      | inr e ↦ subst (λ x. IsOneOf (words k.Comparison) (x ∷ d ∷ [])) (sym (eqb-true c 103 (subst (λ b. (b || c == 103) ≡ true) e first))) (elim (cases_Bool (d == 116)) [
        | inl f ↦ subst (λ x. IsOneOf (words k.Comparison) (103 ∷ x ∷ [])) (sym (eqb-true d 116 f)) (inr (inr (inr (inr (inl refl)))))
        | inr f ↦ subst (λ x. IsOneOf (words k.Comparison) (103 ∷ x ∷ [])) (sym (eqb-true d 101 (subst (λ b. (b || d == 101) ≡ true) f second))) (inr (inr (inr (inr (inr (inl refl))))))
      ])
    ]

order_keeps : (at : At) (count c : ℕ) → (c == 108 || c == 103) ≡ true → Keeps at c (begin p.Order count (next at k.Comparison))
order_keeps at count c is =
    at_option (next at k.Comparison) (λ o. Keeps at c (begin p.Order count o)) (λ e. tt)
    (λ t goes text (d, rest, same, second, (stops, come)).
    as_text at (c ∷ text) ((c ∷ d ∷ []) ++ rest) (ap (λ l. c ∷ l) same)
    (feed at t k.Comparison (c ∷ d ∷ []) rest goes (token.Word k.Comparison (c ∷ d ∷ []) rest (ordered c d is second) stops) come))

either_keeps : (at : At) (count c : ℕ) → (c == 101) ≡ true → Keeps at c (hold p.Either count at (or_at (next at k.Comparison) (next at k.Else)))
either_keeps at count c is =
    at_option (or_at (next at k.Comparison) (next at k.Else)) (λ o. Keeps at c (hold p.Either count at o)) (λ e. tt)
    (λ t goes text come. subst (λ x. MayCome at (x ∷ text)) (sym (eqb-true c 101 is)) (come (some_known (or_at (next at k.Comparison) (next at k.Else)) t goes)))

word_begins_keeps : (at : At) (count c : ℕ) → Keeps at c (word_begins at count c)
unfolding word_begins
word_begins_keeps at count c =
    cond_both (c == 97) _ _ (Keeps at c) (λ e. word_keeps at count c 97 w.Nd k.Junction e (inl refl))
    (λ e. cond_both (c == 111) _ _ (Keeps at c) (λ e. word_keeps at count c 111 w.R k.Junction e (inr (inl refl)))
    (λ e. cond_both (c == 100) _ _ (Keeps at c) (λ e. word_keeps at count c 100 w.Iv k.Calculation e (inl refl))
    (λ e. cond_both (c == 105) _ _ (Keeps at c) (λ e. word_keeps at count c 105 w.Div k.Calculation e (inr (inl refl)))
    (λ e. cond_both (c == 109) _ _ (Keeps at c) (λ e. word_keeps at count c 109 w.Od k.Calculation e (inr (inr (inl refl))))
    (λ e. cond_both (c == 101) _ _ (Keeps at c) (λ e. either_keeps at count c e)
    (λ e. cond_both (c == 110) _ _ (Keeps at c) (λ e. word_keeps at count c 110 w.E k.Comparison e (inr (inl refl)))
    (λ e. cond_both (c == 108 || c == 103) _ _ (Keeps at c) (λ e. order_keeps at count c e)
    (λ e. cond_both (c == 116) _ _ (Keeps at c) (λ e. word_keeps at count c 116 w.Hen k.Then e (inl refl))
    (λ e. tt)))))))))

letter_keeps : (at : At) (count c : ℕ) → is_name_start c ≡ true → Keeps at c (letter_begins at count c (next at k.Name))
letter_keeps at count c starts =
    at_option (next at k.Name) (λ o. Keeps at c (letter_begins at count c o)) (λ e. word_begins_keeps at count c)
    (λ t goes text. cond_both (c == 105) AfterI First (λ st. RestAt (p.Named st) at text → MayCome at (c ∷ text))
    (λ e come. come (some_known (next at k.Name) t goes) (c ∷ []) (ap (λ x. x ∷ []) (eqb-true c 105 e)))
    (λ e come. come (some_known (next at k.Name) t goes) (c ∷ []) ((starts, tt), ap not e)))

class_keeps : (cl : Class) (at : At) (count c : ℕ) → Says cl c → Keeps at c (begin_by cl at count c)
class_keeps class.White at count c is = λ text come. whiten at c text is come
class_keeps (class.Sign kind) at count c is =
    at_option (next at kind) (λ o. Keeps at c (begin p.Ready count o)) (λ e. tt)
    (λ t goes text come. feed at t kind (c ∷ []) text goes (token.Sign kind (c ∷ []) text is) come)
class_keeps (class.Quote quote) at count c is =
    at_option (next at k.Literal) (λ o. Keeps at c (begin (p.Text quote) count o)) (λ e. tt)
    (λ t goes text (word, rest, same, quoted, (stops, come)).
    as_text at (c ∷ text) ((mark_of quote ∷ word) ++ rest) (ap (λ l. c ∷ l) same ∙ ap (λ x. x ∷ (word ++ rest)) is)
    (feed at t k.Literal (mark_of quote ∷ word) rest goes (token.Quoted (mark_of quote) word rest (is_mark quote) quoted stops) come))
class_keeps class.Digit at count c is =
    at_option (next at k.Literal) (λ o. Keeps at c (begin (p.Digits false) count o)) (λ e. tt)
    (λ t goes text (word, rest, same, digits, (stops, come)).
    as_text at (c ∷ text) ((c ∷ word) ++ rest) (ap (λ l. c ∷ l) same)
    (feed at t k.Literal (c ∷ word) rest goes (token.Number (c ∷ word) rest (inl (is, digits)) stops) come))
class_keeps class.Point at count c is =
    at_option (next at k.Dot) (λ o. Keeps at c (hold p.Point count at o)) (λ e. tt)
    (λ t goes text come. subst (λ x. MayCome at (x ∷ text)) (sym is) (come (some_known (next at k.Dot) t goes)))
class_keeps class.Angle at count c is =
    at_option (next at k.Comparison) (λ o. Keeps at c (begin p.MayEqual count o)) (λ e. tt)
    (λ t goes text may. elim may [
      | inl free ↦ feed at t k.Comparison (c ∷ []) text goes (token.Angle c text is free.0) free.1
      | inr more ↦ as_text at (c ∷ text) ((c ∷ 61 ∷ []) ++ more.0) (ap (λ l. c ∷ l) more.1)
          (feed at t k.Comparison (c ∷ 61 ∷ []) more.0 goes (token.Sign k.Comparison (c ∷ 61 ∷ []) more.0 (angle_equals c is)) more.2)
    ])
class_keeps class.Bang at count c is =
    at_option (next at k.Comparison) (λ o. Keeps at c (begin p.MustEqual count o)) (λ e. tt)
    (λ t goes text more. as_text at (c ∷ text) ((33 ∷ 61 ∷ []) ++ more.0) (ap (λ l. c ∷ l) more.1 ∙ ap (λ x. x ∷ 61 ∷ more.0) is)
    (feed at t k.Comparison (33 ∷ 61 ∷ []) more.0 goes (token.Sign k.Comparison (33 ∷ 61 ∷ []) more.0 (inr (inl refl))) more.2))
class_keeps class.Letter at count c is = letter_keeps at count c is
class_keeps class.Other at count c is = tt

-- a character behind a whole token
pub begin_keeps : (at : At) (count c : ℕ) → Keeps at c (begin_at at count c)
begin_keeps at count c = class_keeps (class_of c) at count c (says c)
