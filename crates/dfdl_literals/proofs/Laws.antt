-- The steps of the reader and the written form of a list say the same.
use Rattle.std.proofs.Common.{◌≡◌, ℕ, List, [], ◌∷◌, ◌++◌, length, Option, Some, None, Bool, true, false, not, ◌&&◌, ◌==◌, nat_lt, cond, refl, sym, ap, subst, ◌∙◌, append_assoc, arith}
use Rattle.std.proofs.lemmas.Bool.{cond_both, eqb-true}
use Rattle.std.proofs.lemmas.List.{append-nil}
use Rattle.std.specs.Option.{option_and_then, IfSome}
use Rattle.dfdl_machines.proofs.Runs.{run_push}
use Rattle.dfdl_forms.specs.declared.literals.Piece.{Piece}
use Rattle.dfdl_forms.specs.declared.literals.Piece.TheVariants.{Char, Byte, Nothing}
use Rattle.dfdl_literals.specs.declared.Ending.{Ending}
use Rattle.dfdl_literals.specs.declared.Ending.TheVariants.{Ordinary, Doubled, Alone}
use Rattle.dfdl_literals.specs.declared.scan.Mark.{Mark}
use Rattle.dfdl_literals.specs.declared.scan.Mark.TheVariants.{Whole, Name, Hash, Decimal, Hex, Hexadecimal, Raw, RawHigh, RawByte}
use Rattle.dfdl_literals.specs.declared.scan.Act.{Act}
use Rattle.dfdl_literals.specs.declared.scan.Act.TheVariants.{Move, Add, Close, Letter}
use Rattle.dfdl_literals.specs.Names.{named, begins_name, is_empty_name}
use Rattle.std.specs.Cmp.Lexicographic.{same_text}
use Rattle.dfdl_literals.specs.Lists.{Item, Divider, Sign, PercentSign, Empty, Entity, DecimalCode, HexCode, ByteCode, Written, Then, Fits, is_divider, is_scalar, with_digit, number, spelling, item_spelling, ending, ended, open_pieces, may_follow, may_extend, may_extend_by}
use Rattle.dfdl_literals.specs.Steps.{State, act_plain, act_behind, whole, entity, in_name, at_hash, in_decimal, in_hexadecimal, raw_low, acted, step}
use Rattle.dfdl_lemmas.proofs.Bools.{both}
use Rattle.dfdl_literals.proofs.Table.{begins_empty}

-- what has been read of an item that is not whole
pub data Tail : Type 0 where
  Outside : Tail
  InName : (front : List ℕ) → begins_name front ≡ true → Tail
  AtHash : Tail
  InDecimal : (first : ℕ) (more : List ℕ) (n : ℕ) → number 10 0 (first ∷ more) ≡ Some n → Tail
  AtHex : Tail
  InHex : (first : ℕ) (more : List ℕ) (n : ℕ) → number 16 0 (first ∷ more) ≡ Some n → Tail
  AtRaw : Tail
  BehindHigh : (high n : ℕ) → with_digit 16 0 high ≡ Some n → Tail
  BehindLow : (high low n : ℕ) → number 16 0 (high ∷ low ∷ []) ≡ Some n → nat_lt n 256 ≡ true → Tail

abbrev pub tail_spelling : Tail → List ℕ
tail_spelling Outside = []
tail_spelling (InName front is) = 37 ∷ front
tail_spelling AtHash = 37 ∷ 35 ∷ []
tail_spelling (InDecimal first more n is) = 37 ∷ 35 ∷ first ∷ more
tail_spelling AtHex = 37 ∷ 35 ∷ 120 ∷ []
tail_spelling (InHex first more n is) = 37 ∷ 35 ∷ 120 ∷ first ∷ more
tail_spelling AtRaw = 37 ∷ 35 ∷ 114 ∷ []
tail_spelling (BehindHigh high n is) = 37 ∷ 35 ∷ 114 ∷ high ∷ []
tail_spelling (BehindLow high low n is byte) = 37 ∷ 35 ∷ 114 ∷ high ∷ low ∷ []

abbrev pub tail_name : Tail → List ℕ
tail_name Outside = []
tail_name (InName front is) = front
tail_name AtHash = []
tail_name (InDecimal first more n is) = []
tail_name AtHex = []
tail_name (InHex first more n is) = []
tail_name AtRaw = []
tail_name (BehindHigh high n is) = []
tail_name (BehindLow high low n is byte) = []

abbrev pub tail_mark : Ending → Tail → Mark
tail_mark before Outside = Whole before
tail_mark before (InName front is) = Name
tail_mark before AtHash = Hash
tail_mark before (InDecimal first more n is) = Decimal n
tail_mark before AtHex = Hex
tail_mark before (InHex first more n is) = Hexadecimal n
tail_mark before AtRaw = Raw
tail_mark before (BehindHigh high n is) = RawHigh n
tail_mark before (BehindLow high low n is byte) = RawByte n

abbrev pub Continues : Ending → Tail → Type 0
Continues before Outside = Unit {0}
Continues before (InName front is) = may_extend before ≡ true
Continues before AtHash = may_extend before ≡ true
Continues before (InDecimal first more n is) = may_extend before ≡ true
Continues before AtHex = may_extend before ≡ true
Continues before (InHex first more n is) = may_extend before ≡ true
Continues before AtRaw = may_extend before ≡ true
Continues before (BehindHigh high n is) = may_extend before ≡ true
Continues before (BehindLow high low n is byte) = may_extend before ≡ true

abbrev pub state_of : Written → Tail → State
state_of w t = record { ended = ended w; open_pieces = open_pieces w; name = tail_name t; mark = tail_mark (ending w) t }

-- what is known of a state and the text that led to it
pub record Reached (empty_allowed : Bool) (s : State) (text : List ℕ) : Type 0 where
  pub written : Written
  pub tail : Tail
  pub fits : Fits empty_allowed written
  pub continues : Continues (ending written) tail
  pub is : s ≡ state_of written tail
  pub spelled : text ≡ spelling written ++ tail_spelling tail

grow : (e : Bool) (w : Written) (t u : Tail) (c : ℕ) → Fits e w → Continues (ending w) u → tail_spelling t ++ c ∷ [] ≡ tail_spelling u
    → Reached e (state_of w u) ((spelling w ++ tail_spelling t) ++ c ∷ [])
grow e w t u c fits on same =
    record {
      written = w;
      tail = u;
      fits = fits;
      continues = on;
      is = refl;
      spelled = append_assoc (spelling w) (tail_spelling t) (c ∷ []) ∙ ap (λ l. spelling w ++ l) same;
    }

finish : (e : Bool) (w : Written) (t : Tail) (item : Item) (c : ℕ) → Fits e w → may_follow e (ending w) (open_pieces w) item ≡ true
    → tail_spelling t ++ c ∷ [] ≡ item_spelling item → Reached e (state_of (Then w item) Outside) ((spelling w ++ tail_spelling t) ++ c ∷ [])
finish e w t item c fits may same =
    record {
      written = Then w item;
      tail = Outside;
      fits = (fits, may);
      continues = tt;
      is = refl;
      spelled = append_assoc (spelling w) (tail_spelling t) (c ∷ []) ∙ ap (λ l. spelling w ++ l) same ∙ sym (append-nil (spelling w ++ item_spelling item));
    }

abbrev GoesOn : Bool → Written → Tail → ℕ → Option Act → Type 0
GoesOn e w t c o = IfSome (option_and_then (acted (state_of w t)) o) (λ u. Reached e u ((spelling w ++ tail_spelling t) ++ c ∷ []))

and_not : (a b : Bool) → a ≡ false → b ≡ false → (not a && not b) ≡ true
and_not a b first second = rw (first, second) refl

plain_goes : (e : Bool) (w : Written) (c : ℕ) → Fits e w → is_divider c ≡ false → may_extend (ending w) ≡ true → may_extend_by (ending w) c ≡ true → GoesOn e w Outside c (act_plain c)
plain_goes e w c fits no_divider on by =
    cond_both (c == 37) (Some (Move Name)) (Some (Add (Char c) Ordinary)) (GoesOn e w Outside c)
    (λ is. grow e w Outside (InName [] begins_empty) c fits on (ap (λ d. d ∷ []) (eqb-true c 37 is)))
    (λ other. finish e w Outside (Sign c (and_not _ _ no_divider other)) c fits by refl)

ending_goes : (e : Bool) (w : Written) (c : ℕ) (before : Ending) → Fits e w → is_divider c ≡ false → ending w ≡ before → GoesOn e w Outside c (act_behind before c)
ending_goes e w c Ordinary fits no_divider is = plain_goes e w c fits no_divider (ap may_extend is) (ap (λ x. may_extend_by x c) is)
ending_goes e w c Doubled fits no_divider is =
    cond_both (c == 59) None (act_plain c) (GoesOn e w Outside c) (λ end. tt)
    (λ other. plain_goes e w c fits no_divider (ap may_extend is) (ap (λ x. may_extend_by x c) is ∙ ap not other))
ending_goes e w c Alone fits no_divider is = tt

outside_goes : (e : Bool) (w : Written) (c : ℕ) → Fits e w → GoesOn e w Outside c (whole (ending w) c)
outside_goes e w c fits =
    cond_both (is_divider c) (Some Close) (act_behind (ending w) c) (GoesOn e w Outside c)
    (λ is. finish e w Outside (Divider c is) c fits refl refl)
    (λ other. ending_goes e w c (ending w) fits other refl)

both_hold : (a b : Bool) → a ≡ true → b ≡ true → (a && b) ≡ true
both_hold a b first second = rw (first, second) refl

empty_name : (name : List ℕ) → is_empty_name name ≡ true → name ≡ 69 ∷ 83 ∷ []
empty_name name is = same_text name (69 ∷ 83 ∷ []) (sym is)

not_nil : (c : ℕ) (name : List ℕ) → (length (c ∷ name) == 0) ≡ true → ⊥
not_nil c name is = let same : length (c ∷ name) ≡ 0 = eqb-true _ 0 is in omega (arith, same)

entity_goes : (e : Bool) (w : Written) (f : List ℕ) (begins : begins_name f ≡ true) (c : ℕ) (o : Option Piece) → Fits e w → may_extend (ending w) ≡ true → (c == 59) ≡ true
    → named f ≡ o → GoesOn e w (InName f begins) c (entity (e && (length (open_pieces w) == 0)) f o)
entity_goes e w f begins c (Some piece) fits on end is =
    finish e w (InName f begins) (Entity f piece is) c fits on (ap (λ d. 37 ∷ (f ++ d ∷ [])) (eqb-true c 59 end))
entity_goes e w f begins c None fits on end is =
    cond_both ((e && (length (open_pieces w) == 0)) && is_empty_name f) (Some (Add Nothing Alone)) None (GoesOn e w (InName f begins) c)
    (λ holds.
    (let parts = both (e && (length (open_pieces w) == 0)) (is_empty_name f) holds in
    finish e w (InName f begins) Empty c fits (both_hold _ _ on parts.0)
    (ap (λ d. 37 ∷ (f ++ d ∷ [])) (eqb-true c 59 end) ∙ ap (λ g. 37 ∷ (g ++ 59 ∷ [])) (empty_name f parts.1))))
    (λ other. tt)

letter_goes : (e : Bool) (w : Written) (f : List ℕ) (begins : begins_name f ≡ true) (c : ℕ) → Fits e w → may_extend (ending w) ≡ true → GoesOn e w (InName f begins) c (Some (Letter c))
letter_goes e w f begins c fits on =
    cond_both (begins_name (f ++ c ∷ [])) (Some (record { ended = ended w; open_pieces = open_pieces w; name = f ++ c ∷ []; mark = Name })) None
    (λ o. IfSome o (λ u. Reached e u ((spelling w ++ (37 ∷ f)) ++ c ∷ [])))
    (λ is. grow e w (InName f begins) (InName (f ++ c ∷ []) is) c fits on refl) (λ other. tt)

name_goes : (e : Bool) (w : Written) (f : List ℕ) (begins : begins_name f ≡ true) (c : ℕ) → Fits e w → may_extend (ending w) ≡ true
    → GoesOn e w (InName f begins) c (in_name (e && (length (open_pieces w) == 0)) f c)
name_goes e w [] begins c fits on =
    let t = InName [] begins in
    cond_both (c == 59) (entity (e && (length (open_pieces w) == 0)) [] (named []))
    (cond (c == 37) (Some (Add (Char 37) Doubled)) (cond (c == 35) (Some (Move Hash)) (Some (Letter c)))) (GoesOn e w t c)
    (λ end. entity_goes e w [] begins c (named []) fits on end refl)
    (λ other.
    cond_both (c == 37) (Some (Add (Char 37) Doubled)) (cond (c == 35) (Some (Move Hash)) (Some (Letter c))) (GoesOn e w t c)
    (λ is. finish e w t PercentSign c fits on (ap (λ d. 37 ∷ d ∷ []) (eqb-true c 37 is)))
    (λ no_percent.
    cond_both (c == 35) (Some (Move Hash)) (Some (Letter c)) (GoesOn e w t c)
    (λ is. grow e w t AtHash c fits on (ap (λ d. 37 ∷ d ∷ []) (eqb-true c 35 is)))
    (λ no_hash. letter_goes e w [] begins c fits on)))
name_goes e w (x ∷ f) begins c fits on =
    let t = InName (x ∷ f) begins in
    cond_both (c == 59) (entity (e && (length (open_pieces w) == 0)) (x ∷ f) (named (x ∷ f)))
    (cond (length (x ∷ f) == 0) (cond (c == 37) (Some (Add (Char 37) Doubled)) (cond (c == 35) (Some (Move Hash)) (Some (Letter c)))) (Some (Letter c))) (GoesOn e w t c)
    (λ end. entity_goes e w (x ∷ f) begins c (named (x ∷ f)) fits on end refl)
    (λ other.
    cond_both (length (x ∷ f) == 0) (cond (c == 37) (Some (Add (Char 37) Doubled)) (cond (c == 35) (Some (Move Hash)) (Some (Letter c)))) (Some (Letter c)) (GoesOn e w t c)
    (λ none. absurd (not_nil x f none)) (λ some. letter_goes e w (x ∷ f) begins c fits on))

-- the number with one digit more
number_push : (base n m k c : ℕ) (digits : List ℕ) → number base n digits ≡ Some m → with_digit base m c ≡ Some k → number base n (digits ++ c ∷ []) ≡ Some k
number_push base n m k c digits is more = run_push (with_digit base) digits c n m is ∙ more

first_digit : (base c n : ℕ) → with_digit base 0 c ≡ Some n → number base 0 (c ∷ []) ≡ Some n
first_digit base c n is = ap (λ o. option_and_then (λ t. Some t) o) is

hash_goes : (e : Bool) (w : Written) (c : ℕ) (o : Option ℕ) → Fits e w → may_extend (ending w) ≡ true → with_digit 10 0 c ≡ o → GoesOn e w AtHash c (at_hash o c)
hash_goes e w c (Some n) fits on is = grow e w AtHash (InDecimal c [] n (first_digit 10 c n is)) c fits on refl
hash_goes e w c None fits on is =
    cond_both (c == 120) (Some (Move Hex)) (cond (c == 114) (Some (Move Raw)) None) (GoesOn e w AtHash c)
    (λ hex. grow e w AtHash AtHex c fits on (ap (λ d. 37 ∷ 35 ∷ d ∷ []) (eqb-true c 120 hex)))
    (λ other. cond_both (c == 114) (Some (Move Raw)) None (GoesOn e w AtHash c)
    (λ raw. grow e w AtHash AtRaw c fits on (ap (λ d. 37 ∷ 35 ∷ d ∷ []) (eqb-true c 114 raw))) (λ none. tt))

decimal_goes : (e : Bool) (w : Written) (first : ℕ) (more : List ℕ) (n : ℕ) (is : number 10 0 (first ∷ more) ≡ Some n) (c : ℕ) (o : Option ℕ) → Fits e w → may_extend (ending w) ≡ true
    → with_digit 10 n c ≡ o → GoesOn e w (InDecimal first more n is) c (in_decimal o n c)
decimal_goes e w first more n is c (Some m) fits on digit =
    grow e w (InDecimal first more n is) (InDecimal first (more ++ c ∷ []) m (number_push 10 0 n m c (first ∷ more) is digit)) c fits on refl
decimal_goes e w first more n is c None fits on digit =
    let t = InDecimal first more n is in
    cond_both (c == 59) (cond (is_scalar n) (Some (Add (Char n) Ordinary)) None) None (GoesOn e w t c)
    (λ end. cond_both (is_scalar n) (Some (Add (Char n) Ordinary)) None (GoesOn e w t c)
    (λ scalar. finish e w t (DecimalCode first more n is scalar) c fits on (ap (λ d. 37 ∷ 35 ∷ first ∷ (more ++ d ∷ [])) (eqb-true c 59 end))) (λ none. tt))
    (λ other. tt)

hex_goes : (e : Bool) (w : Written) (first : ℕ) (more : List ℕ) (n : ℕ) (is : number 16 0 (first ∷ more) ≡ Some n) (c : ℕ) (o : Option ℕ) → Fits e w → may_extend (ending w) ≡ true
    → with_digit 16 n c ≡ o → GoesOn e w (InHex first more n is) c (in_hexadecimal o n c)
hex_goes e w first more n is c (Some m) fits on digit =
    grow e w (InHex first more n is) (InHex first (more ++ c ∷ []) m (number_push 16 0 n m c (first ∷ more) is digit)) c fits on refl
hex_goes e w first more n is c None fits on digit =
    let t = InHex first more n is in
    cond_both (c == 59) (cond (is_scalar n) (Some (Add (Char n) Ordinary)) None) None (GoesOn e w t c)
    (λ end. cond_both (is_scalar n) (Some (Add (Char n) Ordinary)) None (GoesOn e w t c)
    (λ scalar. finish e w t (HexCode first more n is scalar) c fits on (ap (λ d. 37 ∷ 35 ∷ 120 ∷ first ∷ (more ++ d ∷ [])) (eqb-true c 59 end))) (λ none. tt))
    (λ other. tt)

first_hex_goes : (e : Bool) (w : Written) (c : ℕ) (o : Option ℕ) → Fits e w → may_extend (ending w) ≡ true → with_digit 16 0 c ≡ o
    → GoesOn e w AtHex c (option_and_then (λ n. Some (Move (Hexadecimal n))) o)
first_hex_goes e w c (Some n) fits on is = grow e w AtHex (InHex c [] n (first_digit 16 c n is)) c fits on refl
first_hex_goes e w c None fits on is = tt

high_goes : (e : Bool) (w : Written) (c : ℕ) (o : Option ℕ) → Fits e w → may_extend (ending w) ≡ true → with_digit 16 0 c ≡ o
    → GoesOn e w AtRaw c (option_and_then (λ n. Some (Move (RawHigh n))) o)
high_goes e w c (Some n) fits on is = grow e w AtRaw (BehindHigh c n is) c fits on refl
high_goes e w c None fits on is = tt

low_goes : (e : Bool) (w : Written) (high n : ℕ) (is : with_digit 16 0 high ≡ Some n) (c : ℕ) (o : Option ℕ) → Fits e w → may_extend (ending w) ≡ true → with_digit 16 n c ≡ o
    → GoesOn e w (BehindHigh high n is) c (raw_low o)
low_goes e w high n is c (Some m) fits on digit =
    let t = BehindHigh high n is in
    cond_both (nat_lt m 256) (Some (Move (RawByte m))) None (GoesOn e w t c)
    (λ byte. grow e w t (BehindLow high c m (number_push 16 0 n m c (high ∷ []) (first_digit 16 high n is) digit) byte) c fits on refl) (λ none. tt)
low_goes e w high n is c None fits on digit = tt

goes_from : (e : Bool) (w : Written) (t : Tail) (c : ℕ) → Fits e w → Continues (ending w) t → IfSome (step e (state_of w t) c) (λ u. Reached e u ((spelling w ++ tail_spelling t) ++ c ∷ []))
goes_from e w Outside c fits on = outside_goes e w c fits
goes_from e w (InName f begins) c fits on = name_goes e w f begins c fits on
goes_from e w AtHash c fits on = hash_goes e w c (with_digit 10 0 c) fits on refl
goes_from e w (InDecimal first more n is) c fits on = decimal_goes e w first more n is c (with_digit 10 n c) fits on refl
goes_from e w AtHex c fits on = first_hex_goes e w c (with_digit 16 0 c) fits on refl
goes_from e w (InHex first more n is) c fits on = hex_goes e w first more n is c (with_digit 16 n c) fits on refl
goes_from e w AtRaw c fits on = high_goes e w c (with_digit 16 0 c) fits on refl
goes_from e w (BehindHigh high n is) c fits on = low_goes e w high n is c (with_digit 16 n c) fits on refl
goes_from e w (BehindLow high low n is byte) c fits on =
    let t = BehindLow high low n is byte in
    cond_both (c == 59) (Some (Add (Byte n) Ordinary)) None (GoesOn e w t c)
    (λ end. finish e w t (ByteCode high low n is byte) c fits on (ap (λ d. 37 ∷ 35 ∷ 114 ∷ high ∷ low ∷ d ∷ []) (eqb-true c 59 end))) (λ none. tt)

pub goes : (e : Bool) (s t : State) (c : ℕ) (text : List ℕ) → Reached e s text → step e s c ≡ Some t → Reached e t (text ++ c ∷ [])
goes e s t c text at is =
    let from = goes_from e at.written at.tail c at.fits at.continues in
    let same : step e (state_of at.written at.tail) c ≡ Some t = ap (λ x. step e x c) (sym at.is) ∙ is in
    let there : IfSome (Some t) (λ u. Reached e u ((spelling at.written ++ tail_spelling at.tail) ++ c ∷ [])) =
    subst (λ o. IfSome o (λ u. Reached e u ((spelling at.written ++ tail_spelling at.tail) ++ c ∷ []))) same from in
    subst (λ l. Reached e t (l ++ c ∷ [])) (sym at.spelled) there
