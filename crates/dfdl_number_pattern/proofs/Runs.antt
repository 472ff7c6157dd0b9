-- Each state leads to the end of some pattern, and the machine runs through each pattern.
use Rattle.std.proofs.Common.{◌≡◌, ℕ, zero, suc, ◌≤◌, ◌==◌, true, false, Option, Some, None, List, [], ◌∷◌, ◌++◌, ◌⊎◌, inl, inr, refl, ap, sym, subst, ◌∙◌, arith, append_assoc}
use Rattle.std.specs.Option.{option_and_then}
use Rattle.std.proofs.lemmas.Bool.{cases_Bool}
use Rattle.std.proofs.lemmas.Option.{option_and_then_some}
use Rattle.dfdl_machines.specs.Machines.{run, IsReader}
use Rattle.dfdl_forms.specs.declared.number_pattern.NumberPattern.{NumberPattern}
use Rattle.dfdl_number_pattern.specs.declared.quote.Quote.{Quote}
use Rattle.dfdl_number_pattern.specs.declared.quote.Quote.TheVariants.{Bare, AfterC2, AfterE2, AfterE280, Opened, Quoted, Closed}
use Rattle.dfdl_number_pattern.specs.declared.digits.Digits.{Digits}
use Rattle.dfdl_number_pattern.specs.Affix.{is_whole, IsAffix, Nothing}
use Rattle.dfdl_number_pattern.specs.Digits.{none, sign_count, is_complete, IsDigits, NoSign}
use Rattle.dfdl_number_pattern.specs.Pattern.{IsSubpattern, pattern_of, Spells, IsPattern}
use Rattle.dfdl_number_pattern.specs.Machine.{quote_next, told, digit_next, Subpattern, State, start, second_next, with_digits, prefix_or, prefix_next, number_or, number_next, suffix_or, suffix_next, step, accepts, value}
use Rattle.dfdl_number_pattern.proofs.Affixes.{if_true, if_false, affix_keeps}
use Rattle.dfdl_number_pattern.proofs.DigitLaws.{IsSign, zero_sign, divider_apart, digits_keep}
use Rattle.dfdl_number_pattern.proofs.Room.{need, grows}
use Rattle.dfdl_number_pattern.proofs.ReaderLaws.{at_prefix, at_number, at_suffix, Stands, InPrefix, InNumber, InSuffix, Reached, reads_on, spells_value}

module _ (f : Option Subpattern) (p : List ℕ) where
  prefix_quote : (q r : Quote) (b : ℕ) → quote_next q b ≡ Some r → step (at_prefix q p f) b ≡ Some (at_prefix r (told q b p) f)
  unfolding prefix_next
  prefix_quote q r b e = ap (λ (o : Option Quote). prefix_or o q (at_prefix q p f) b) e

  prefix_sign : (q : Quote) (e : Digits) (b : ℕ) → is_whole q ≡ true → IsSign b → digit_next none b ≡ Some e → step (at_prefix q p f) b ≡ Some (at_number p e f)
  unfolding prefix_next
  prefix_sign q e b w s is =
      ap (λ (o : Option Quote). prefix_or o q (at_prefix q p f) b) (s.apart q w)
      ∙ (if_true (is_whole q) _ _ w ∙ ap (λ (o : Option Digits). with_digits o (at_prefix q p f)) is)

  number_sign : (d e : Digits) (b : ℕ) → IsSign b → digit_next d b ≡ Some e → step (at_number p d f) b ≡ Some (at_number p e f)
  unfolding number_next
  number_sign d e b s is =
      ap (λ (o : Option Quote). number_or o (at_number p d f) b) (s.apart Bare refl)
      ∙ (if_false (b == 59) _ _ s.divides_not ∙ ap (λ (o : Option Digits). with_digits o (at_number p d f)) is)

  number_quote : (d : Digits) (r : Quote) (b : ℕ) → is_complete d ≡ true → quote_next Bare b ≡ Some r → step (at_number p d f) b ≡ Some (at_suffix r p (told Bare b []) d f)
  unfolding number_next
  number_quote d r b c e = ap (λ (o : Option Quote). number_or o (at_number p d f) b) e ∙ if_true (is_complete d) _ _ c

  suffix_quote : (x : List ℕ) (d : Digits) (q r : Quote) (b : ℕ) → quote_next q b ≡ Some r → step (at_suffix q p x d f) b ≡ Some (at_suffix r p (told q b x) d f)
  unfolding suffix_next
  suffix_quote x d q r b e = ap (λ (o : Option Quote). suffix_or o q (at_suffix q p x d f) b) e

number_divider : (p : List ℕ) (d : Digits) → is_complete d ≡ true
    → step (at_number p d None) 59 ≡ Some (at_prefix Bare [] (Some (record { prefix = p; suffix = []; digits = d })))
unfolding number_next second_next
number_divider p d c = ap (λ (o : Option Quote). number_or o (at_number p d None) 59) (divider_apart Bare refl) ∙ if_true (is_complete d) _ _ c

suffix_divider : (q : Quote) (p x : List ℕ) (d : Digits) → is_whole q ≡ true
    → step (at_suffix q p x d None) 59 ≡ Some (at_prefix Bare [] (Some (record { prefix = p; suffix = x; digits = d })))
unfolding suffix_next second_next
suffix_divider q p x d w = ap (λ (o : Option Quote). suffix_or o q (at_suffix q p x d None) 59) (divider_apart q w) ∙ if_true (is_whole q) _ _ w

-- some bytes lead to the end of a pattern
pub record Lives (s : State) : Type 0 where
  pub more : List ℕ
  pub last : State
  pub runs : run step s more ≡ Some last
  pub ends : accepts last ≡ true

lives_by : (s t : State) (b : ℕ) → step s b ≡ Some t → Lives t → Lives s
lives_by s t b e l = record { more = b ∷ l.more; last = l.last; runs = ap (option_and_then (λ (u : State). run step u l.more)) e ∙ l.runs; ends = l.ends }

number_lives : (n : ℕ) (p : List ℕ) (d : Digits) (f : Option Subpattern) (t : List ℕ) → IsDigits d t → need d.groups (sign_count d) ≤ n → Lives (at_number p d f)
number_lives zero p d f t i h =
    elim (cases_Bool (is_complete d)) [
      | inl e ↦ record { more = []; last = at_number p d f; runs = refl; ends = e }
      | inr e ↦
          let g = grows d t i e in
          lives_by (at_number p d f) (at_number p g.next f) 48 (number_sign f p d g.next 48 zero_sign g.is)
          (elim (cases_Bool (is_complete g.next)) [
            | inl c ↦ record { more = []; last = at_number p g.next f; runs = refl; ends = c }
            | inr c ↦ let less = g.less c in absurd (omega (arith, less))
          ])
    ]
number_lives (suc n) p d f t i h =
    elim (cases_Bool (is_complete d)) [
      | inl e ↦ record { more = []; last = at_number p d f; runs = refl; ends = e }
      | inr e ↦
          let g = grows d t i e in
          lives_by (at_number p d f) (at_number p g.next f) 48 (number_sign f p d g.next 48 zero_sign g.is)
          (elim (cases_Bool (is_complete g.next)) [
            | inl c ↦ record { more = []; last = at_number p g.next f; runs = refl; ends = c }
            | inr c ↦ let less = g.less c in number_lives n p g.next f (t ++ 48 ∷ []) g.are (omega (arith, less))
          ])
    ]

digits_live : (p : List ℕ) (d : Digits) (f : Option Subpattern) (t : List ℕ) → IsDigits d t → Lives (at_number p d f)
digits_live p d f t i = number_lives (need d.groups (sign_count d)) p d f t i (omega arith)

whole_lives : (q : Quote) (p : List ℕ) (f : Option Subpattern) → is_whole q ≡ true → Lives (at_prefix q p f)
whole_lives q p f w =
    let g = grows none [] NoSign refl in
    lives_by (at_prefix q p f) (at_number p g.next f) 48 (prefix_sign f p q g.next 48 w zero_sign g.is) (digits_live p g.next f (48 ∷ []) g.are)

-- the byte behind which an affix may end
record Closes (q : Quote) : Type 0 where
  byte : ℕ
  to : Quote
  is : quote_next q byte ≡ Some to
  whole : is_whole to ≡ true

closes : (q : Quote) → (is_whole q ≡ true) ⊎ Closes q
unfolding quote_next
closes Bare = inl refl
closes Closed = inl refl
closes AfterC2 = inr (record { byte = 128; to = Bare; is = refl; whole = refl })
closes AfterE2 = inr (record { byte = 129; to = Bare; is = refl; whole = refl })
closes AfterE280 = inr (record { byte = 128; to = Bare; is = refl; whole = refl })
closes Opened = inr (record { byte = 39; to = Bare; is = refl; whole = refl })
closes Quoted = inr (record { byte = 39; to = Closed; is = refl; whole = refl })

prefix_lives : (q : Quote) (p : List ℕ) (f : Option Subpattern) → Lives (at_prefix q p f)
prefix_lives q p f =
    elim (closes q) [
      | inl w ↦ whole_lives q p f w
      | inr c ↦ lives_by (at_prefix q p f) (at_prefix c.to (told q c.byte p) f) c.byte (prefix_quote f p q c.to c.byte c.is) (whole_lives c.to (told q c.byte p) f c.whole)
    ]

suffix_lives : (q : Quote) (p x : List ℕ) (d : Digits) (f : Option Subpattern) → Lives (at_suffix q p x d f)
suffix_lives q p x d f =
    elim (closes q) [
      | inl w ↦ record { more = []; last = at_suffix q p x d f; runs = refl; ends = w }
      | inr c ↦
          lives_by (at_suffix q p x d f) (at_suffix c.to p (told q c.byte x) d f) c.byte (suffix_quote f p x d q c.to c.byte c.is)
          (record { more = []; last = at_suffix c.to p (told q c.byte x) d f; runs = refl; ends = c.whole })
    ]

stands_live : (f : Option Subpattern) (s : State) (t : List ℕ) → Stands f s t → Lives s
stands_live _ _ _ (InPrefix f q p t a) = prefix_lives q p f
stands_live _ _ _ (InNumber f q p tp td d a w i) = digits_live p d f td i
stands_live _ _ _ (InSuffix f q r p x tp td tx d a w i c y) = suffix_lives r p x d f

reached_lives : (s : State) (t : List ℕ) → Reached s t → Lives s
reached_lives s t (inl st) = stands_live None s t st
reached_lives s t (inr se) = stands_live (Some se.sub) s se.now se.stands

run_on : (xs ys : List ℕ) (s u : State) → run step s xs ≡ Some u → run step s (xs ++ ys) ≡ run step u ys
run_on [] ys s u is = let same : s ≡ u = cc in ap (λ (v : State). run step v ys) same
run_on (a ∷ xs) ys s u is =
    option_and_then_some (λ (v : State). run step v xs) (step s a) u is
    (λ v goes rest. ap (option_and_then (λ (w : State). run step w (xs ++ ys))) goes ∙ run_on xs ys v u rest)

run_one : (xs : List ℕ) (b : ℕ) (s u v : State) → run step s xs ≡ Some u → step u b ≡ Some v → run step s (xs ++ b ∷ []) ≡ Some v
run_one xs b s u v is goes = run_on xs (b ∷ []) s u is ∙ ap (option_and_then (λ (w : State). run step w [])) goes

-- a prefix is run through
prefix_runs : (f : Option Subpattern) (q : Quote) (p t : List ℕ) → IsAffix q p t → run step (at_prefix Bare [] f) t ≡ Some (at_prefix q p f)
prefix_runs f =
    affix_keeps (λ q p t. run step (at_prefix Bare [] f) t ≡ Some (at_prefix q p f)) refl
    (λ q r w t b e is. run_one t b (at_prefix Bare [] f) (at_prefix q w f) (at_prefix r (told q b w) f) is (prefix_quote f w q r b e))

-- digits are run through
record DigitsRun (f : Option Subpattern) (q : Quote) (p : List ℕ) (d : Digits) (t : List ℕ) : Type 0 where
  to : State
  runs : run step (at_prefix q p f) t ≡ Some to
  is : ((to ≡ at_prefix q p f) × (d ≡ none)) ⊎ (to ≡ at_number p d f)

digits_step : (f : Option Subpattern) (q : Quote) (p : List ℕ) → is_whole q ≡ true → (d e : Digits) (t : List ℕ) (b : ℕ) → IsSign b → digit_next d b ≡ Some e
    → DigitsRun f q p d t → DigitsRun f q p e (t ++ b ∷ [])
digits_step f q p w d e t b sign next r =
    elim r.is [
      | inl h ↦
          let next_none : digit_next none b ≡ Some e = subst (λ (x : Digits). digit_next x b ≡ Some e) h.1 next in
          let goes : step r.to b ≡ Some (at_number p e f) = subst (λ (u : State). step u b ≡ Some (at_number p e f)) (sym h.0) (prefix_sign f p q e b w sign next_none) in
          record { to = at_number p e f; runs = run_one t b (at_prefix q p f) r.to (at_number p e f) r.runs goes; is = inr refl }
      | inr h ↦
          let goes : step r.to b ≡ Some (at_number p e f) = subst (λ (u : State). step u b ≡ Some (at_number p e f)) (sym h) (number_sign f p d e b sign next) in
          record { to = at_number p e f; runs = run_one t b (at_prefix q p f) r.to (at_number p e f) r.runs goes; is = inr refl }
    ]

digits_run : (f : Option Subpattern) (q : Quote) (p : List ℕ) → is_whole q ≡ true → (d : Digits) (t : List ℕ) → IsDigits d t → DigitsRun f q p d t
digits_run f q p w =
    digits_keep (λ d t. DigitsRun f q p d t) (record { to = at_prefix q p f; runs = refl; is = inl (refl, refl) })
    (λ d e t b sign next r. digits_step f q p w d e t b sign next r)

complete_runs : (f : Option Subpattern) (q : Quote) (p : List ℕ) → is_whole q ≡ true → (d : Digits) (t : List ℕ) → IsDigits d t → is_complete d ≡ true
    → run step (at_prefix q p f) t ≡ Some (at_number p d f)
complete_runs f q p w d t i c =
    let r = digits_run f q p w d t i in
    elim r.is [
      | inl h ↦ let never : false ≡ true = subst (λ (x : Digits). is_complete x ≡ true) h.1 c in cc
      | inr h ↦ r.runs ∙ ap (λ (u : State). Some u) h
    ]

-- a suffix is run through
record SuffixRun (f : Option Subpattern) (p : List ℕ) (d : Digits) (q : Quote) (x t : List ℕ) : Type 0 where
  to : State
  runs : run step (at_number p d f) t ≡ Some to
  is : ((to ≡ at_number p d f) × (q ≡ Bare) × (x ≡ [])) ⊎ (to ≡ at_suffix q p x d f)

suffix_step : (f : Option Subpattern) (p : List ℕ) (d : Digits) → is_complete d ≡ true → (q r : Quote) (w t : List ℕ) (b : ℕ) → quote_next q b ≡ Some r
    → SuffixRun f p d q w t → SuffixRun f p d r (told q b w) (t ++ b ∷ [])
suffix_step f p d c q r w t b next s =
    elim s.is [
      | inl h ↦
          let next_bare : quote_next Bare b ≡ Some r = subst (λ (x : Quote). quote_next x b ≡ Some r) h.1 next in
          let same : told Bare b [] ≡ told q b w = subst (λ (x : Quote). told Bare b [] ≡ told x b w) (sym h.1) (ap (λ (l : List ℕ). told Bare b l) (sym h.2)) in
          let goes : step s.to b ≡ Some (at_suffix r p (told q b w) d f) =
          subst (λ (u : State). step u b ≡ Some (at_suffix r p (told q b w) d f)) (sym h.0)
          (subst (λ (l : List ℕ). step (at_number p d f) b ≡ Some (at_suffix r p l d f)) same (number_quote f p d r b c next_bare))
          in
          record { to = at_suffix r p (told q b w) d f; runs = run_one t b (at_number p d f) s.to (at_suffix r p (told q b w) d f) s.runs goes; is = inr refl }
      | inr h ↦
          let goes : step s.to b ≡ Some (at_suffix r p (told q b w) d f) =
          subst (λ (u : State). step u b ≡ Some (at_suffix r p (told q b w) d f)) (sym h) (suffix_quote f p w d q r b next)
          in
          record { to = at_suffix r p (told q b w) d f; runs = run_one t b (at_number p d f) s.to (at_suffix r p (told q b w) d f) s.runs goes; is = inr refl }
    ]

suffix_run : (f : Option Subpattern) (p : List ℕ) (d : Digits) → is_complete d ≡ true → (q : Quote) (x t : List ℕ) → IsAffix q x t → SuffixRun f p d q x t
suffix_run f p d c =
    affix_keeps (λ q x t. SuffixRun f p d q x t) (record { to = at_number p d f; runs = refl; is = inl (refl, refl, refl) })
    (λ q r w t b next s. suffix_step f p d c q r w t b next s)

-- the pattern of a sub-pattern, alone or behind the first one
abbrev sub_value : Option Subpattern → List ℕ → List ℕ → Digits → NumberPattern
sub_value None p x d = pattern_of d p x (45 ∷ p) x
sub_value (Some f) p x d = pattern_of f.digits f.prefix f.suffix p x

number_value : (f : Option Subpattern) (p : List ℕ) (d : Digits) → value (at_number p d f) ≡ sub_value f p [] d
number_value None p d = refl
number_value (Some f) p d = refl

suffix_value : (f : Option Subpattern) (q : Quote) (p x : List ℕ) (d : Digits) → value (at_suffix q p x d f) ≡ sub_value f p x d
suffix_value None q p x d = refl
suffix_value (Some f) q p x d = refl

abbrev sub_of : List ℕ → List ℕ → Digits → Subpattern
sub_of p x d = record { prefix = p; suffix = x; digits = d }

-- a sub-pattern is run through, to its own pattern; behind the first one a `;` goes on
record SubRun (f : Option Subpattern) (p x : List ℕ) (d : Digits) (t : List ℕ) : Type 0 where
  to : State
  runs : run step (at_prefix Bare [] f) t ≡ Some to
  ends : accepts to ≡ true
  means : value to ≡ sub_value f p x d
  divides : f ≡ None → step to 59 ≡ Some (at_prefix Bare [] (Some (sub_of p x d)))

sub_at : (f : Option Subpattern) (p : List ℕ) (d : Digits) (q : Quote) (x t u : List ℕ) → is_complete d ≡ true → is_whole q ≡ true → run step (at_prefix Bare [] f) u ≡ Some (at_number p d f)
    → SuffixRun f p d q x t → SubRun f p x d (u ++ t)
sub_at f p d q x t u c w is s =
    let all : run step (at_prefix Bare [] f) (u ++ t) ≡ Some s.to = run_on u t (at_prefix Bare [] f) (at_number p d f) is ∙ s.runs in
    elim s.is [
      | inl h ↦ record {
        to = s.to;
        runs = all;
        ends = subst (λ (v : State). accepts v ≡ true) (sym h.0) c;
        means = ap value h.0 ∙ (number_value f p d ∙ ap (λ (l : List ℕ). sub_value f p l d) (sym h.2));
        divides = λ e.
            subst (λ (v : State). step v 59 ≡ Some (at_prefix Bare [] (Some (sub_of p x d)))) (sym h.0)
            (subst (λ (g : Option Subpattern). step (at_number p d g) 59 ≡ Some (at_prefix Bare [] (Some (sub_of p x d)))) (sym e)
            (number_divider p d c ∙ ap (λ (l : List ℕ). Some (at_prefix Bare [] (Some (sub_of p l d)))) (sym h.2)));
      }
      | inr h ↦ record {
        to = s.to;
        runs = all;
        ends = subst (λ (v : State). accepts v ≡ true) (sym h) w;
        means = ap value h ∙ suffix_value f q p x d;
        divides = λ e.
            subst (λ (v : State). step v 59 ≡ Some (at_prefix Bare [] (Some (sub_of p x d)))) (sym h)
            (subst (λ (g : Option Subpattern). step (at_suffix q p x d g) 59 ≡ Some (at_prefix Bare [] (Some (sub_of p x d)))) (sym e) (suffix_divider q p x d w));
      }
    ]

sub_run : (f : Option Subpattern) (p x : List ℕ) (d : Digits) (t : List ℕ) → IsSubpattern p x d t → SubRun f p x d t
sub_run f p x d t i =
    let front : run step (at_prefix Bare [] f) (i.before ++ i.digits) ≡ Some (at_number p d f) =
    run_on i.before i.digits (at_prefix Bare [] f) (at_prefix i.ends_prefix p f) (prefix_runs f i.ends_prefix p i.before i.is_prefix)
    ∙ complete_runs f i.ends_prefix p i.prefix_whole d i.digits i.is_digits i.complete
    in
    let s = sub_at f p d i.ends_suffix x i.behind (i.before ++ i.digits) i.complete i.suffix_whole front (suffix_run f p d i.complete i.ends_suffix x i.behind i.is_suffix) in
    subst (λ (l : List ℕ). SubRun f p x d l) (append_assoc i.before i.digits i.behind ∙ sym i.spelled) s

-- the text of a pattern is run through, to that pattern
pub record PatternRun (p : NumberPattern) (t : List ℕ) : Type 0 where
  pub to : State
  pub runs : run step start t ≡ Some to
  pub ends : accepts to ≡ true
  pub means : value to ≡ p

pub pattern_runs : (p : NumberPattern) (t : List ℕ) → Spells p t → PatternRun p t
pattern_runs p t (inl one) =
    let r = sub_run None one.prefix one.suffix one.digits t one.is_only in
    record { to = r.to; runs = r.runs; ends = r.ends; means = r.means ∙ sym one.means }
pattern_runs p t (inr two) =
    let r = sub_run None two.prefix two.suffix two.digits two.first two.is_first in
    let f = sub_of two.prefix two.suffix two.digits in
    let s = sub_run (Some f) two.negative_prefix two.negative_suffix two.other two.second two.is_second in
    let all : run step start (two.first ++ 59 ∷ two.second) ≡ Some s.to =
    run_on two.first (59 ∷ two.second) start r.to r.runs
    ∙ (ap (option_and_then (λ (w : State). run step w two.second)) (r.divides refl) ∙ s.runs)
    in
    record { to = s.to; runs = subst (λ (l : List ℕ). run step start l ≡ Some s.to) (sym two.spelled) all; ends = s.ends; means = s.means ∙ sym two.means }

-- a text spells the one pattern to which it is run through
pub only_pattern : (s : State) (t : List ℕ) → run step start t ≡ Some s → (p : NumberPattern) → Spells p t → p ≡ value s
only_pattern s t is p spells =
    let r = pattern_runs p t spells in
    let same : Some r.to ≡ Some s = sym r.runs ∙ is in
    let to_same : r.to ≡ s = cc in
    sym r.means ∙ ap value to_same

-- the machine reads number patterns
pub reads_patterns : IsReader step start accepts Reached IsPattern
reads_patterns =
    record {
      begins = inl (InPrefix None Bare [] [] Nothing);
      goes = λ s t a text at is. reads_on s t a text at is;
      ends = λ s text at e. (value s, spells_value s text at e);
      live = λ s text at. let l = reached_lives s text at in (l.more, l.last, l.runs, l.ends);
      full = λ text is. let r = pattern_runs is.0 text is.1 in (r.to, r.runs, r.ends);
    }
