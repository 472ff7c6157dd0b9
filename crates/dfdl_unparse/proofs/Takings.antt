-- What an event comes to that was laid and run.
use Rattle.std.proofs.Common.{◌≡◌, ℕ, ◌*◌, ◌-◌, ◌≤◌, Bool, true, false, nat_lt, Option, None, List, length, take, drop, refl, sym, ap, subst, ◌∙◌, arith}
use Rattle.std.proofs.lemmas.Bool.{ltb-true}
use Rattle.dfdl_edge.specs.Sink.{Adds, AddsFront}
use Rattle.dfdl_forms.specs.declared.order.BitOrder.{BitOrder}
use Rattle.dfdl_report.specs.declared.cause.LimitCause.{LimitCause}
use Rattle.dfdl_splice.specs.Splicing.{Spliced}
use Rattle.dfdl_suspend.specs.Asks.{Asks}
use Rattle.dfdl_suspend.specs.Rounds.{solution}
use Rattle.dfdl_suspend.specs.declared.known.Held.{Held}
use Rattle.dfdl_unparse.specs.Documents.{Pieces, told}
use Rattle.dfdl_unparse.specs.Fronts.{ArePacked, HasTaken, HasTakenFront, bits_known, front, whole}
use Rattle.dfdl_unparse.specs.Splices.{IsSpliced}
use Rattle.dfdl_unparse.specs.Unparsers.{first_limit, held_back}
use Rattle.dfdl_unparse.proofs.Packings.{has_taken, has_taken_front}
use Rattle.dfdl_unparse.proofs.Stretches.{spliced_bits}

-- no limit is passed where no lower one is
pub none_more : (own : Option LimitCause) (cells held : Bool) → first_limit own cells false ≡ None → held ≡ false → first_limit own cells held ≡ None
none_more own cells held none is = ap (λ (b : Bool). first_limit own cells b) is ∙ none

not_less : (m n : ℕ) → n ≤ m → nat_lt m n ≡ false
not_less m n le = by_case (nat_lt m n) (λ e. let less = ltb-true m n e in omega arith)
  where
    by_case : (b : Bool) → (b ≡ true → ⊥) → b ≡ false
    by_case true never = absurd (never refl)
    by_case false never = refl

module _ (old pieces : Pieces) (equation : ℕ → Asks Held) (start mid now : List (Option Held)) (splice : Spliced)
    (mid_is : mid ≡ start) (front_is : front (told pieces start) ≡ front (told old start))
    (least : now ≡ solution (length mid) equation)
    (spliced : IsSpliced pieces.order (told pieces now) (whole (front (told pieces mid))) splice) where
  front_mid : front (told pieces mid) ≡ front (told old start)
  front_mid = ap (λ (known : List (Option Held)). front (told pieces known)) mid_is ∙ front_is

  solved : now ≡ solution (length start) equation
  solved = least ∙ ap (λ (known : List (Option Held)). solution (length known) equation) mid_is

  -- no more bits are held back than there may be
  pub none_held : (most : ℕ) → splice.most_bytes ≡ most → nat_lt (8 * most) (held_back pieces (solution (length start) equation) (front (told old start))) ≡ false
  none_held most most_is =
      let all = spliced_bits pieces.order (told pieces now) (whole (front (told pieces mid))) splice spliced in
      let few = spliced.few in
      let same = ap (λ (xs : List ℕ). whole xs) front_mid in
      not_less (8 * most) (held_back pieces (solution (length start) equation) (front (told old start)))
      (subst (λ (known : List (Option Held)). bits_known (told pieces known) - whole (front (told old start)) ≤ 8 * most) solved (omega (arith, all, few, same, most_is)))

  module _ (order_is : pieces.order ≡ old.order) (longer : take (length (front (told pieces mid))) (front (told pieces now)) ≡ front (told pieces mid))
      (bytes before : List ℕ) (taken later : Option (List ℕ)) (more : ArePacked splice.order splice.front bytes)
      (had : HasTaken old.order (front (told old start)) before taken) where
    packed : ArePacked pieces.order (front (told old start)) had.sent
    packed = subst (λ (order : BitOrder). ArePacked order (front (told old start)) had.sent) (sym order_is) had.packed

    longer_now : take (length (front (told old start))) (front (told pieces now)) ≡ front (told old start)
    longer_now = subst (λ (xs : List ℕ). take (length xs) (front (told pieces now)) ≡ xs) front_mid longer

    more_now : ArePacked pieces.order (drop (whole (front (told old start))) (front (told pieces now))) bytes
    more_now =
        subst (λ (xs : List ℕ). ArePacked pieces.order (drop (whole xs) (front (told pieces now))) bytes) front_mid
        (subst (λ (xs : List ℕ). ArePacked pieces.order xs bytes) spliced.front_is
        (subst (λ (order : BitOrder). ArePacked order splice.front bytes) spliced.order_is more))

    pub taken_now : Adds taken bytes later → HasTaken pieces.order (front (told pieces now)) before later
    taken_now adds = has_taken pieces.order (front (told old start)) (front (told pieces now)) had.sent bytes packed longer_now more_now before taken later had.all adds

    pub taken_front : AddsFront taken bytes later → HasTakenFront pieces.order (front (told pieces (solution (length start) equation))) before later
    taken_front adds =
        subst (λ (known : List (Option Held)). HasTakenFront pieces.order (front (told pieces known)) before later) solved
        (has_taken_front pieces.order (front (told old start)) (front (told pieces now)) had.sent bytes packed longer_now more_now before taken later had.all adds)
