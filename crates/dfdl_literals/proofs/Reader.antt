-- The reader's machine reads the lists of literals.
use Rattle.std.proofs.Common.{◌≡◌, ℕ, ◌+◌, ◌*◌, ◌<◌, ◌≤◌, List, [], ◌∷◌, ◌++◌, length, Option, Some, None, Bool, true, false, not, ◌&&◌, ◌==◌, nat_lt, cond, refl, sym, ap, subst, ◌∙◌, append_assoc, arith}
use Rattle.std.proofs.lemmas.Bool.{cond_both, cond-true, cond-false}
use Rattle.std.proofs.lemmas.Bool.Decides.{nat_tests}
use Rattle.std.proofs.lemmas.List.{append-nil}
use Rattle.std.proofs.lemmas.Option.{option_and_then_some}
use Rattle.std.specs.Option.{option_and_then}
use Rattle.std.specs.Char.{digit_value}
use Rattle.dfdl_machines.specs.Machines.{run, IsReader}
use Rattle.dfdl_machines.proofs.Readers.{reaches}
use Rattle.dfdl_machines.proofs.Runs.{run-append}
use Rattle.dfdl_forms.specs.declared.literals.Piece.{Piece}
use Rattle.dfdl_forms.specs.declared.literals.Piece.TheVariants.{Char, Byte, Nothing}
use Rattle.dfdl_literals.specs.declared.Ending.{Ending}
use Rattle.dfdl_literals.specs.declared.Ending.TheVariants.{Ordinary, Doubled, Alone}
use Rattle.dfdl_literals.specs.declared.scan.Mark.{Mark}
use Rattle.dfdl_literals.specs.declared.scan.Mark.TheVariants.{Whole, Name, Hash, Decimal, Hex, Hexadecimal, Raw, RawHigh, RawByte}
use Rattle.dfdl_literals.specs.declared.scan.Act.TheVariants.{Move, Add, Letter}
use Rattle.dfdl_literals.specs.Names.{named, begins_name}
use Rattle.dfdl_literals.specs.Lists.{Item, Divider, Sign, PercentSign, Empty, Entity, DecimalCode, HexCode, ByteCode, Written, Start, Then, Fits, is_divider, is_plain, is_scalar, with_digit, number, spelling, item_spelling, ending, ended, open_pieces, literals, may_follow, may_extend, may_extend_by, closed, IsList, Spells, Reads}
use Rattle.dfdl_literals.specs.Steps.{State, start, whole, entity, in_name, at_hash, in_decimal, in_hexadecimal, raw_low, acted, step, accepts, accepts_mark}
use Rattle.dfdl_lemmas.proofs.Bools.{both}
use Rattle.dfdl_literals.proofs.Table.{begun, begins_named, letter_named, begins_e, begins_es, empty_unnamed, is_letter}
use Rattle.dfdl_literals.proofs.Laws.{Tail, Outside, InName, AtHash, InDecimal, AtHex, InHex, AtRaw, BehindHigh, BehindLow, tail_spelling, tail_mark, state_of, Reached, goes}

abbrev standing : List (List Piece) → List Piece → List ℕ → Mark → State
standing d o f m = record { ended = d; open_pieces = o; name = f; mark = m }

-- a run goes on behind a step
run_step : (e : Bool) (s t : State) (c : ℕ) (l : List ℕ) → step e s c ≡ Some t → run (step e) s (c ∷ l) ≡ run (step e) t l
run_step e s t c l is = ap (λ o. option_and_then (λ u. run (step e) u l) o) is

not_true : (b : Bool) → not b ≡ true → b ≡ false
not_true true is = let no_it : ⊥ = cc in absurd no_it
not_true false is = refl

letter_act : (alone : Bool) (f : List ℕ) (c : ℕ) → is_letter c ≡ true → in_name alone f c ≡ Some (Letter c)
letter_act alone f c is =
    let first = both (not (c == 59)) (not (c == 37) && not (c == 35)) is in
    let second = both (not (c == 37)) (not (c == 35)) first.1 in
    cond-false _ _ _ (not_true (c == 59) first.0)
    ∙ cond_both (length f == 0) (cond (c == 37) (Some (Add (Char 37) Doubled)) (cond (c == 35) (Some (Move Hash)) (Some (Letter c)))) (Some (Letter c)) (λ o. o ≡ Some (Letter c))
    (λ none. cond-false _ _ _ (not_true (c == 37) second.0) ∙ cond-false _ _ _ (not_true (c == 35) second.1)) (λ some. refl)

step_letter : (e : Bool) (d : List (List Piece)) (o : List Piece) (f : List ℕ) (c : ℕ) → is_letter c ≡ true → begins_name (f ++ c ∷ []) ≡ true
    → step e (standing d o f Name) c ≡ Some (standing d o (f ++ c ∷ []) Name)
step_letter e d o f c letter begins =
    ap (λ a. option_and_then (acted (standing d o f Name)) a) (letter_act (e && (length o == 0)) f c letter) ∙ cond-true _ _ _ begins

name_run : (e : Bool) (d : List (List Piece)) (o : List Piece) (rest f : List ℕ) (p : Piece) (t : List ℕ) → named (f ++ rest) ≡ Some p
    → run (step e) (standing d o f Name) (rest ++ t) ≡ run (step e) (standing d o (f ++ rest) Name) t
name_run e d o [] f p t is = ap (λ l. run (step e) (standing d o l Name) t) (sym (append-nil f))
name_run e d o (c ∷ rest) f p t is =
    let there : named ((f ++ c ∷ []) ++ rest) ≡ Some p = ap named (append_assoc f (c ∷ []) rest) ∙ is in
    run_step e (standing d o f Name) (standing d o (f ++ c ∷ []) Name) c (rest ++ t)
    (step_letter e d o f c (letter_named f rest c p is) (begins_named (f ++ c ∷ []) rest p there))
    ∙ name_run e d o rest (f ++ c ∷ []) p t there
    ∙ ap (λ l. run (step e) (standing d o l Name) t) (append_assoc f (c ∷ []) rest)

name_end : (e : Bool) (d : List (List Piece)) (o : List Piece) (f : List ℕ) (p : Piece) → named f ≡ Some p
    → run (step e) (standing d o f Name) (59 ∷ []) ≡ Some (standing d (o ++ p ∷ []) [] (Whole Ordinary))
name_end e d o f p is =
    run_step e (standing d o f Name) (standing d (o ++ p ∷ []) [] (Whole Ordinary)) 59 []
    (ap (λ x. option_and_then (acted (standing d o f Name)) (entity (e && (length o == 0)) f x)) is)

decimal_run : (e : Bool) (d : List (List Piece)) (o : List Piece) (digits : List ℕ) (a n : ℕ) (t : List ℕ) → number 10 a digits ≡ Some n
    → run (step e) (standing d o [] (Decimal a)) (digits ++ t) ≡ run (step e) (standing d o [] (Decimal n)) t
decimal_run e d o [] a n t is = let same : a ≡ n = cc in ap (λ x. run (step e) (standing d o [] (Decimal x)) t) same
decimal_run e d o (c ∷ digits) a n t is =
    option_and_then_some (λ m. number 10 m digits) (with_digit 10 a c) n is
    (λ m first rest.
    run_step e (standing d o [] (Decimal a)) (standing d o [] (Decimal m)) c (digits ++ t) (ap (λ x. option_and_then (acted (standing d o [] (Decimal a))) (in_decimal x a c)) first)
    ∙ decimal_run e d o digits m n t rest)

hex_run : (e : Bool) (d : List (List Piece)) (o : List Piece) (digits : List ℕ) (a n : ℕ) (t : List ℕ) → number 16 a digits ≡ Some n
    → run (step e) (standing d o [] (Hexadecimal a)) (digits ++ t) ≡ run (step e) (standing d o [] (Hexadecimal n)) t
hex_run e d o [] a n t is = let same : a ≡ n = cc in ap (λ x. run (step e) (standing d o [] (Hexadecimal x)) t) same
hex_run e d o (c ∷ digits) a n t is =
    option_and_then_some (λ m. number 16 m digits) (with_digit 16 a c) n is
    (λ m first rest.
    run_step e (standing d o [] (Hexadecimal a)) (standing d o [] (Hexadecimal m)) c (digits ++ t) (ap (λ x. option_and_then (acted (standing d o [] (Hexadecimal a))) (in_hexadecimal x a c)) first)
    ∙ hex_run e d o digits m n t rest)

decimal_end : (e : Bool) (d : List (List Piece)) (o : List Piece) (n : ℕ) → is_scalar n ≡ true
    → run (step e) (standing d o [] (Decimal n)) (59 ∷ []) ≡ Some (standing d (o ++ Char n ∷ []) [] (Whole Ordinary))
decimal_end e d o n is =
    run_step e (standing d o [] (Decimal n)) (standing d (o ++ Char n ∷ []) [] (Whole Ordinary)) 59 []
    (ap (λ x. option_and_then (acted (standing d o [] (Decimal n))) (cond x (Some (Add (Char n) Ordinary)) None)) is)

hex_end : (e : Bool) (d : List (List Piece)) (o : List Piece) (n : ℕ) → is_scalar n ≡ true
    → run (step e) (standing d o [] (Hexadecimal n)) (59 ∷ []) ≡ Some (standing d (o ++ Char n ∷ []) [] (Whole Ordinary))
hex_end e d o n is =
    run_step e (standing d o [] (Hexadecimal n)) (standing d (o ++ Char n ∷ []) [] (Whole Ordinary)) 59 []
    (ap (λ x. option_and_then (acted (standing d o [] (Hexadecimal n))) (cond x (Some (Add (Char n) Ordinary)) None)) is)

-- each list is run through

percent_act : (before : Ending) → may_extend before ≡ true → whole before 37 ≡ Some (Move Name)
percent_act Ordinary on = refl
percent_act Doubled on = refl
percent_act Alone on = let no_it : ⊥ = cc in absurd no_it

percent_run : (e : Bool) (w : Written) (l : List ℕ) → may_extend (ending w) ≡ true
    → run (step e) (state_of w Outside) (37 ∷ l) ≡ run (step e) (standing (ended w) (open_pieces w) [] Name) l
percent_run e w l on =
    run_step e (state_of w Outside) (standing (ended w) (open_pieces w) [] Name) 37 l
    (ap (λ a. option_and_then (acted (state_of w Outside)) a) (percent_act (ending w) on))

sign_act : (before : Ending) (c : ℕ) → is_plain c ≡ true → may_extend_by before c ≡ true → whole before c ≡ Some (Add (Char c) Ordinary)
sign_act Ordinary c plain on =
    let parts = both (not (is_divider c)) (not (c == 37)) plain in
    cond-false _ _ _ (not_true (is_divider c) parts.0) ∙ cond-false _ _ _ (not_true (c == 37) parts.1)
sign_act Doubled c plain on =
    let parts = both (not (is_divider c)) (not (c == 37)) plain in
    cond-false _ _ _ (not_true (is_divider c) parts.0) ∙ cond-false _ _ _ (not_true (c == 59) on) ∙ cond-false _ _ _ (not_true (c == 37) parts.1)
sign_act Alone c plain on = let no_it : ⊥ = cc in absurd no_it

empty_end : (e : Bool) (d : List (List Piece)) (o : List Piece) → (e && (length o == 0)) ≡ true
    → step e (standing d o (69 ∷ 83 ∷ []) Name) 59 ≡ Some (standing d (o ++ Nothing ∷ []) [] (Whole Alone))
empty_end e d o alone =
    ap (λ x. option_and_then (acted (standing d o (69 ∷ 83 ∷ []) Name)) (entity (e && (length o == 0)) (69 ∷ 83 ∷ []) x)) empty_unnamed
    ∙ ap (λ x. option_and_then (acted (standing d o (69 ∷ 83 ∷ []) Name)) (cond (x && true) (Some (Add Nothing Alone)) None)) alone

item_run : (e : Bool) (w : Written) (item : Item) → may_follow e (ending w) (open_pieces w) item ≡ true
    → run (step e) (state_of w Outside) (item_spelling item) ≡ Some (state_of (Then w item) Outside)
item_run e w (Divider c is) may =
    run_step e (state_of w Outside) (state_of (Then w (Divider c is)) Outside) c [] (ap (λ a. option_and_then (acted (state_of w Outside)) a) (cond-true _ _ _ is))
item_run e w (Sign c is) may =
    run_step e (state_of w Outside) (state_of (Then w (Sign c is)) Outside) c [] (ap (λ a. option_and_then (acted (state_of w Outside)) a) (sign_act (ending w) c is may))
item_run e w PercentSign may = percent_run e w (37 ∷ []) may
item_run e w Empty may =
    let parts = both (may_extend (ending w)) (e && (length (open_pieces w) == 0)) may in
    let d = ended w in
    let o = open_pieces w in
    percent_run e w (69 ∷ 83 ∷ 59 ∷ []) parts.0
    ∙ run_step e (standing d o [] Name) (standing d o (69 ∷ []) Name) 69 (83 ∷ 59 ∷ []) (step_letter e d o [] 69 refl begins_e)
    ∙ run_step e (standing d o (69 ∷ []) Name) (standing d o (69 ∷ 83 ∷ []) Name) 83 (59 ∷ []) (step_letter e d o (69 ∷ []) 83 refl begins_es)
    ∙ run_step e (standing d o (69 ∷ 83 ∷ []) Name) (standing d (o ++ Nothing ∷ []) [] (Whole Alone)) 59 [] (empty_end e d o parts.1)
item_run e w (Entity name piece is) may =
    percent_run e w (name ++ 59 ∷ []) may
    ∙ name_run e (ended w) (open_pieces w) name [] piece (59 ∷ []) is
    ∙ name_end e (ended w) (open_pieces w) name piece is
item_run e w (DecimalCode first more n is scalar) may =
    let d = ended w in
    let o = open_pieces w in
    percent_run e w (35 ∷ first ∷ (more ++ 59 ∷ [])) may
    ∙ option_and_then_some (λ m. number 10 m more) (with_digit 10 0 first) n is
    (λ m digit rest.
    run_step e (standing d o [] Hash) (standing d o [] (Decimal m)) first (more ++ 59 ∷ []) (ap (λ x. option_and_then (acted (standing d o [] Hash)) (at_hash x first)) digit)
    ∙ decimal_run e d o more m n (59 ∷ []) rest
    ∙ decimal_end e d o n scalar)
item_run e w (HexCode first more n is scalar) may =
    let d = ended w in
    let o = open_pieces w in
    percent_run e w (35 ∷ 120 ∷ first ∷ (more ++ 59 ∷ [])) may
    ∙ option_and_then_some (λ m. number 16 m more) (with_digit 16 0 first) n is
    (λ m digit rest.
    run_step e (standing d o [] Hex) (standing d o [] (Hexadecimal m)) first (more ++ 59 ∷ [])
    (ap (λ x. option_and_then (acted (standing d o [] Hex)) (option_and_then (λ k. Some (Move (Hexadecimal k))) x)) digit)
    ∙ hex_run e d o more m n (59 ∷ []) rest
    ∙ hex_end e d o n scalar)
item_run e w (ByteCode high low n is byte) may =
    let d = ended w in
    let o = open_pieces w in
    percent_run e w (35 ∷ 114 ∷ high ∷ low ∷ 59 ∷ []) may
    ∙ option_and_then_some (λ m. number 16 m (low ∷ [])) (with_digit 16 0 high) n is
    (λ m digit rest.
    run_step e (standing d o [] Raw) (standing d o [] (RawHigh m)) high (low ∷ 59 ∷ [])
    (ap (λ x. option_and_then (acted (standing d o [] Raw)) (option_and_then (λ k. Some (Move (RawHigh k))) x)) digit)
    ∙ option_and_then_some (λ k. Some k) (with_digit 16 m low) n rest
    (λ k second same.
    (let it : k ≡ n = cc in
    run_step e (standing d o [] (RawHigh m)) (standing d o [] (RawByte n)) low (59 ∷ [])
    (ap (λ x. option_and_then (acted (standing d o [] (RawHigh m))) (raw_low x)) (second ∙ ap (λ x. Some x) it)
    ∙ ap (λ x. option_and_then (acted (standing d o [] (RawHigh m))) (cond x (Some (Move (RawByte n))) None)) byte))))

pub full_run : (e : Bool) (w : Written) → Fits e w → run (step e) start (spelling w) ≡ Some (state_of w Outside)
full_run e Start fits = refl
full_run e (Then w item) fits =
    run-append (step e) (spelling w) (item_spelling item) start
    ∙ ap (λ o. option_and_then (λ u. run (step e) u (item_spelling item)) o) (full_run e w fits.0)
    ∙ item_run e w item fits.1

-- from each state a list is reached

with_digit_least : (base n c m : ℕ) → with_digit base n c ≡ Some m → m < 0x110000
with_digit_least base n c m =
    cond_both (nat_lt (digit_value c) base) (cond (nat_lt (n * base + digit_value c) 0x110000) (Some (n * base + digit_value c)) None) None (λ o. o ≡ Some m → m < 0x110000)
    (λ digit. cond_both (nat_lt (n * base + digit_value c) 0x110000) (Some (n * base + digit_value c)) None (λ o. o ≡ Some m → m < 0x110000)
    (λ less same. (let it : n * base + digit_value c ≡ m = cc in let l : n * base + digit_value c < 0x110000 = grind (arith, nat_tests) in subst (λ x. x < 0x110000) it l)) (λ more same. let no_it : ⊥ = cc in absurd no_it))
    (λ none same. let no_it : ⊥ = cc in absurd no_it)

number_least : (base : ℕ) (digits : List ℕ) (a n : ℕ) → a < 0x110000 → number base a digits ≡ Some n → n < 0x110000
number_least base [] a n less is = let same : a ≡ n = cc in subst (λ x. x < 0x110000) same less
number_least base (c ∷ digits) a n less is =
    option_and_then_some (λ m. number base m digits) (with_digit base a c) n is (λ m first rest. number_least base digits m n (with_digit_least base a c m first) rest)

hex_digit_least : (c m : ℕ) → with_digit 16 0 c ≡ Some m → m < 16
hex_digit_least c m =
    cond_both (nat_lt (digit_value c) 16) (cond (nat_lt (0 * 16 + digit_value c) 0x110000) (Some (0 * 16 + digit_value c)) None) None (λ o. o ≡ Some m → m < 16)
    (λ digit. cond_both (nat_lt (0 * 16 + digit_value c) 0x110000) (Some (0 * 16 + digit_value c)) None (λ o. o ≡ Some m → m < 16)
    (λ less same. (let it : 0 * 16 + digit_value c ≡ m = cc in let l : digit_value c < 16 = grind (arith, nat_tests) in omega (arith, it, l))) (λ more same. let no_it : ⊥ = cc in absurd no_it))
    (λ none same. let no_it : ⊥ = cc in absurd no_it)

surrogate : (n : ℕ) → is_scalar n ≡ false → n < 0x110000 → (0xD800 ≤ n) × (n < 0xE000)
surrogate n is less = grind (arith, nat_tests)

scalar_from : (n : ℕ) → 0xE000 ≤ n → n < 0x110000 → is_scalar n ≡ true
scalar_from n more less = grind (arith, nat_tests)

less_test : (m n : ℕ) → m < n → nat_lt m n ≡ true
less_test m n less = grind (arith, nat_tests)

abbrev Lives : Bool → State → Type 0
Lives e s = (more : List ℕ) × (t : State) × (run (step e) s more ≡ Some t) × (accepts t ≡ true)

decimal_lives : (e : Bool) (d : List (List Piece)) (o : List Piece) (n : ℕ) (b : Bool) → n < 0x110000 → is_scalar n ≡ b → Lives e (standing d o [] (Decimal n))
decimal_lives e d o n true less is = (59 ∷ [], standing d (o ++ Char n ∷ []) [] (Whole Ordinary), decimal_end e d o n is, refl)
decimal_lives e d o n false less is =
    let between = surrogate n is less in
    let digit : with_digit 10 n 48 ≡ Some (n * 10 + 0) = cond-true _ _ _ (less_test (n * 10 + 0) 0x110000 (omega (arith, between.0, between.1))) in (
      48 ∷ 59 ∷ [],
      standing d (o ++ Char (n * 10 + 0) ∷ []) [] (Whole Ordinary),
      decimal_run e d o (48 ∷ []) n (n * 10 + 0) (59 ∷ []) (ap (λ x. option_and_then (λ t. Some t) x) digit)
          ∙ decimal_end e d o (n * 10 + 0) (scalar_from (n * 10 + 0) (omega (arith, between.0, between.1)) (omega (arith, between.0, between.1))),
      refl,
    )

hex_lives : (e : Bool) (d : List (List Piece)) (o : List Piece) (n : ℕ) (b : Bool) → n < 0x110000 → is_scalar n ≡ b → Lives e (standing d o [] (Hexadecimal n))
hex_lives e d o n true less is = (59 ∷ [], standing d (o ++ Char n ∷ []) [] (Whole Ordinary), hex_end e d o n is, refl)
hex_lives e d o n false less is =
    let between = surrogate n is less in
    let digit : with_digit 16 n 48 ≡ Some (n * 16 + 0) = cond-true _ _ _ (less_test (n * 16 + 0) 0x110000 (omega (arith, between.0, between.1))) in (
      48 ∷ 59 ∷ [],
      standing d (o ++ Char (n * 16 + 0) ∷ []) [] (Whole Ordinary),
      hex_run e d o (48 ∷ []) n (n * 16 + 0) (59 ∷ []) (ap (λ x. option_and_then (λ t. Some t) x) digit)
          ∙ hex_end e d o (n * 16 + 0) (scalar_from (n * 16 + 0) (omega (arith, between.0, between.1)) (omega (arith, between.0, between.1))),
      refl,
    )

lives : (e : Bool) (w : Written) (t : Tail) → Lives e (state_of w t)
lives e w Outside = ([], state_of w Outside, refl, refl)
lives e w (InName f is) =
    let more = begun f is in (
      more.0 ++ 59 ∷ [],
      standing (ended w) (open_pieces w ++ more.1 ∷ []) [] (Whole Ordinary),
      name_run e (ended w) (open_pieces w) more.0 f more.1 (59 ∷ []) more.2 ∙ name_end e (ended w) (open_pieces w) (f ++ more.0) more.1 more.2,
      refl,
    )
lives e w AtHash = (49 ∷ 59 ∷ [], standing (ended w) (open_pieces w ++ Char 1 ∷ []) [] (Whole Ordinary), refl, refl)
lives e w (InDecimal first more n is) = decimal_lives e (ended w) (open_pieces w) n (is_scalar n) (number_least 10 (first ∷ more) 0 n (omega arith) is) refl
lives e w AtHex = (49 ∷ 59 ∷ [], standing (ended w) (open_pieces w ++ Char 1 ∷ []) [] (Whole Ordinary), refl, refl)
lives e w (InHex first more n is) = hex_lives e (ended w) (open_pieces w) n (is_scalar n) (number_least 16 (first ∷ more) 0 n (omega arith) is) refl
lives e w AtRaw = (48 ∷ 48 ∷ 59 ∷ [], standing (ended w) (open_pieces w ++ Byte 0 ∷ []) [] (Whole Ordinary), refl, refl)
lives e w (BehindHigh high n is) =
    let least = hex_digit_least high n is in
    let digit : with_digit 16 n 48 ≡ Some (n * 16 + 0) = cond-true _ _ _ (less_test (n * 16 + 0) 0x110000 (omega (arith, least))) in
    let byte : nat_lt (n * 16 + 0) 256 ≡ true = less_test (n * 16 + 0) 256 (omega (arith, least)) in (
      48 ∷ 59 ∷ [],
      standing (ended w) (open_pieces w ++ Byte (n * 16 + 0) ∷ []) [] (Whole Ordinary),
      run_step e (standing (ended w) (open_pieces w) [] (RawHigh n)) (standing (ended w) (open_pieces w) [] (RawByte (n * 16 + 0))) 48 (59 ∷ [])
          (ap (λ x. option_and_then (acted (standing (ended w) (open_pieces w) [] (RawHigh n))) (raw_low x)) digit
          ∙ ap (λ x. option_and_then (acted (standing (ended w) (open_pieces w) [] (RawHigh n))) (cond x (Some (Move (RawByte (n * 16 + 0)))) None)) byte),
      refl,
    )
lives e w (BehindLow high low n is byte) = (59 ∷ [], standing (ended w) (open_pieces w ++ Byte n ∷ []) [] (Whole Ordinary), refl, refl)

spelled_from : (e : Bool) (w : Written) (t : Tail) (text : List ℕ) → Fits e w → accepts_mark (tail_mark (ending w) t) ≡ true → text ≡ spelling w ++ tail_spelling t → Spells e (literals w) text
spelled_from e w Outside text fits is same = record { written = w; fits = fits; spelled = sym (same ∙ append-nil (spelling w)); means = refl }
spelled_from e w (InName f b) text fits is same = let no_it : ⊥ = cc in absurd no_it
spelled_from e w AtHash text fits is same = let no_it : ⊥ = cc in absurd no_it
spelled_from e w (InDecimal first more n b) text fits is same = let no_it : ⊥ = cc in absurd no_it
spelled_from e w AtHex text fits is same = let no_it : ⊥ = cc in absurd no_it
spelled_from e w (InHex first more n b) text fits is same = let no_it : ⊥ = cc in absurd no_it
spelled_from e w AtRaw text fits is same = let no_it : ⊥ = cc in absurd no_it
spelled_from e w (BehindHigh high n b) text fits is same = let no_it : ⊥ = cc in absurd no_it
spelled_from e w (BehindLow high low n b byte) text fits is same = let no_it : ⊥ = cc in absurd no_it

-- the literals that a state has read, where it accepts
pub reads : (e : Bool) (s : State) (text : List ℕ) → Reached e s text → accepts s ≡ true → Spells e (closed s.ended s.open_pieces) text
reads e s text at is =
    subst (λ x. Spells e (closed x.ended x.open_pieces) text) (sym at.is)
    (spelled_from e at.written at.tail text at.fits (sym (ap accepts at.is) ∙ is) at.spelled)

pub reader : (e : Bool) → IsReader (step e) start accepts (Reached e) (IsList e)
reader e =
    record {
      begins = record { written = Start; tail = Outside; fits = tt; continues = tt; is = refl; spelled = refl };
      goes = goes e;
      ends = λ s text at is. (closed s.ended s.open_pieces, reads e s text at is);
      live = λ s text at. subst (Lives e) (sym at.is) (lives e at.written at.tail);
      full = λ text list. (
        state_of list.1.written Outside,
        ap (λ l. run (step e) start l) (sym list.1.spelled) ∙ full_run e list.1.written list.1.fits,
        refl,
      );
    }

some_same : {S : Type 0} (s t : S) → Some s ≡ Some t → s ≡ t
some_same s t same = cc

-- the literals of a run that is accepted, and no others
pub reads_only : (e : Bool) (s : State) (text : List ℕ) → run (step e) start text ≡ Some s → accepts s ≡ true → Reads e (closed s.ended s.open_pieces) text
reads_only e s text is whole_it =
    record {
      spells = reads e s text (reaches (reader e) text s is) whole_it;
      only = λ other spells.
          (let same : s ≡ state_of spells.written Outside =
          some_same s (state_of spells.written Outside) (sym is ∙ ap (λ l. run (step e) start l) (sym spells.spelled) ∙ full_run e spells.written spells.fits) in
          sym spells.means ∙ ap (λ x. closed x.ended x.open_pieces) (sym same));
    }

-- the characters of a run that is not accepted write no list
pub refused : (e : Bool) (text : List ℕ) (s : State) → run (step e) start text ≡ Some s → accepts s ≡ false → IsList e text → ⊥
refused e text s is refuses list =
    let t = IsReader.full (reader e) text list in
    not_both (run (step e) start text) s t.0 is refuses t.1 t.2
  where
    not_both : (o : Option State) (u v : State) → o ≡ Some u → accepts u ≡ false → o ≡ Some v → accepts v ≡ true → ⊥
    not_both o u v first no_end second end = cc

-- nor do those of a run that stops
pub stuck_run : (e : Bool) (text : List ℕ) → run (step e) start text ≡ None → IsList e text → ⊥
stuck_run e text is list =
    let t = IsReader.full (reader e) text list in
    none_some (run (step e) start text) t.0 is t.1
  where
    none_some : (o : Option State) (u : State) → o ≡ None → o ≡ Some u → ⊥
    none_some o u none some = cc
