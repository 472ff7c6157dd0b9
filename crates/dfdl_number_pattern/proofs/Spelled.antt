-- What a text is read as is the one pattern that it spells, and the numbers of a pattern are bounded.
use Rattle.std.proofs.Common.{◌≡◌, ℕ, Bool, true, false, cond, Option, Some, None, List, inl, inr, refl, ap, sym, subst, ◌∙◌, arith}
use Rattle.std.specs.Option.{option_and_then}
use Rattle.dfdl_machines.specs.Machines.{run}
use Rattle.dfdl_machines.proofs.Readers.{reaches}
use Rattle.dfdl_forms.specs.declared.number_pattern.NumberPattern.{NumberPattern}
use Rattle.dfdl_forms.specs.NumberForms.{IsNumberPattern}
use Rattle.dfdl_number_pattern.specs.declared.digits.Digits.{Digits}
use Rattle.dfdl_number_pattern.specs.Pattern.{IsSubpattern, pattern_of, Spells, IsPattern}
use Rattle.dfdl_number_pattern.specs.Machine.{State, start, step, accepts, value}
use Rattle.dfdl_number_pattern.specs.Read.{pattern_at, pattern_read}
use Rattle.dfdl_number_pattern.proofs.Few.{AreFew, are_few, few_in_group}
use Rattle.dfdl_number_pattern.proofs.ReaderLaws.{spells_value}
use Rattle.dfdl_number_pattern.proofs.Runs.{pattern_runs, reads_patterns}

-- the numbers of the pattern of digits that are few
bounded_of : (d : Digits) (prefix suffix negative_prefix negative_suffix : List ℕ) → AreFew d
    → IsNumberPattern (pattern_of d prefix suffix negative_prefix negative_suffix)
bounded_of d prefix suffix negative_prefix negative_suffix few =
    let signs = few.signs in
    record {
      few = omega (arith, signs);
      least_integer_within = omega arith;
      least_fraction_within = omega arith;
      group_within = few_in_group d few;
    }

sub_few : (p x : List ℕ) (d : Digits) (t : List ℕ) → IsSubpattern p x d t → AreFew d
sub_few p x d t i = are_few d i.digits i.is_digits

-- the numbers of each pattern are bounded
pub spelled_bounded : (p : NumberPattern) (text : List ℕ) → Spells p text → IsNumberPattern p
spelled_bounded p text (inl one) =
    subst IsNumberPattern (sym one.means)
    (bounded_of one.digits one.prefix one.suffix _ one.suffix (sub_few one.prefix one.suffix one.digits text one.is_only))
spelled_bounded p text (inr two) =
    subst IsNumberPattern (sym two.means)
    (bounded_of two.digits two.prefix two.suffix two.negative_prefix two.negative_suffix (sub_few two.prefix two.suffix two.digits two.first two.is_first))

-- a run that ends where a pattern may is read as its value
pub read_at : (text : List ℕ) (s : State) → run step start text ≡ Some s → accepts s ≡ true → pattern_read text ≡ Some (value s)
unfolding pattern_read
read_at text s is takes =
    ap (λ (o : Option State). option_and_then pattern_at o) is ∙ ap (λ (b : Bool). cond b (Some (value s)) None) takes

-- what is spelled is read
pub one_read : (text : List ℕ) (p : NumberPattern) → Spells p text → pattern_read text ≡ Some p
one_read text p spells =
    let r = pattern_runs p text spells in
    read_at text r.to r.runs r.ends ∙ ap (λ (q : NumberPattern). Some q) r.means

some_none : {A : Type 0} (a : A) → None ≡ Some a → ⊥
some_none a is = cc

by_end : (text : List ℕ) (p : NumberPattern) (s : State) (b : Bool) → run step start text ≡ Some s → accepts s ≡ b
    → cond b (Some (value s)) None ≡ Some p → Spells p text
by_end text p s true is takes same =
    let whole : value s ≡ p = cc in
    subst (λ (q : NumberPattern). Spells q text) whole (spells_value s text (reaches reads_patterns text s is) takes)
by_end text p s false is refuses same = absurd (some_none p same)

by_run : (text : List ℕ) (p : NumberPattern) (o : Option State) → run step start text ≡ o → option_and_then pattern_at o ≡ Some p → Spells p text
by_run text p None is same = absurd (some_none p same)
by_run text p (Some s) is same = by_end text p s (accepts s) is refl same

-- what is read is spelled
pub read_spelled : (text : List ℕ) (p : NumberPattern) → pattern_read text ≡ Some p → Spells p text
unfolding pattern_read
read_spelled text p is = by_run text p (run step start text) refl is

by_reading : (text : List ℕ) (o : Option NumberPattern) → pattern_read text ≡ o → (IsPattern text → ⊥) → pattern_read text ≡ None
by_reading text None is none = is
by_reading text (Some p) is none = absurd (none (p, read_spelled text p is))

-- what is no pattern is read as none
pub unread : (text : List ℕ) → (IsPattern text → ⊥) → pattern_read text ≡ None
unread text none = by_reading text (pattern_read text) refl none
