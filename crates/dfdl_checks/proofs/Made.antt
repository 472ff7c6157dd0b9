-- The primitives that are made of what is told of a component.
use Rattle.std.proofs.Common.{◌≡◌, ap, ◌∙◌, ℕ, List, Option, Bool, codes}
use Rattle.dfdl_forms.specs.Binary.{most_bits}
use Rattle.dfdl_forms.specs.Types.{form_of}
use Rattle.dfdl_forms.specs.declared.packed.PackedRep.{PackedRep}
use Rattle.dfdl_forms.specs.declared.simple.Simple.{Simple}
use Rattle.dfdl_scope.specs.Scoping.{Told}
use Rattle.dfdl_terms.specs.declared.row.Primitive.{Primitive}
use Rattle.dfdl_checks.proofs.AlikeChains.{three}
use Rattle.dfdl_checks.specs.Booleans.{falsity_told, truth_told}
use Rattle.dfdl_checks.specs.Numbers.{field_bits, field_nibbles, number_by, number_of_type, packed_by, packed_of_type, places_of, truth_by, truth_of}
use Rattle.dfdl_checks.specs.Orders.{orders_of}
use Rattle.dfdl_checks.specs.Packed.{codes_for, is_strict}
use Rattle.dfdl_checks.specs.Subjects.{told_at}
use Rattle.dfdl_checks.specs.declared.orders.Orders.{Orders}
use Rattle.dfdl_checks.specs.Judged.{Judged}

-- the number with what is told
pub made : (s : Judged) (simple : Simple) {orders : Orders} {most : ℕ} {bits places : Option ℕ} {t : Told} {result : Option Primitive}
    → orders ≡ orders_of s → most ≡ most_bits (form_of simple)
    → bits ≡ field_bits s most → t ≡ told_at s (codes "binaryDecimalVirtualPoint") → places ≡ places_of simple t
    → result ≡ number_by simple orders bits places → result ≡ number_of_type s simple
made s simple ordered most_is sized told placed is =
    is ∙ three (number_by simple) ordered (sized ∙ ap (field_bits s) most_is) (placed ∙ ap (places_of simple) told)

-- the packed number with what is told
pub packed-made : (s : Judged) (simple : Simple) (rep : PackedRep) {orders : Orders} {strict : Bool} {nibbles : Option ℕ} {signs : Option (List ℕ)}
    {places : Option ℕ} {t u : Told} {result : Option Primitive}
    → orders ≡ orders_of s → strict ≡ is_strict rep (told_at s (codes "binaryNumberCheckPolicy"))
    → nibbles ≡ field_nibbles s rep → t ≡ told_at s (codes "binaryPackedSignCodes") → signs ≡ codes_for rep t
    → u ≡ told_at s (codes "binaryDecimalVirtualPoint") → places ≡ places_of simple u
    → result ≡ packed_by simple rep orders strict nibbles signs places → result ≡ packed_of_type s simple rep
packed-made s simple rep {orders} {strict} {nibbles} {signs} {places} ordered policy sized told signed point placed is =
    is
    ∙ ap (λ o. packed_by simple rep o strict nibbles signs places) ordered
    ∙ ap (λ x. packed_by simple rep (orders_of s) x nibbles signs places) policy
    ∙ three (packed_by simple rep (orders_of s) (is_strict rep (told_at s (codes "binaryNumberCheckPolicy"))))
    sized (signed ∙ ap (codes_for rep) told) (placed ∙ ap (places_of simple) point)

-- the boolean with what is told
pub truth-made : (s : Judged) {orders : Orders} {bits falsity : Option ℕ} {truth : Option (Option ℕ)} {t u : Told} {result : Option Primitive}
    → orders ≡ orders_of s → bits ≡ field_bits s 32
    → t ≡ told_at s (codes "binaryBooleanTrueRep") → truth ≡ truth_told t
    → u ≡ told_at s (codes "binaryBooleanFalseRep") → falsity ≡ falsity_told u
    → result ≡ truth_by orders bits truth falsity → result ≡ truth_of s
truth-made s {orders} {bits} {falsity} {truth} ordered sized told true_is other false_is is =
    is
    ∙ ap (λ o. truth_by o bits truth falsity) ordered
    ∙ three (truth_by (orders_of s)) sized (true_is ∙ ap truth_told told) (false_is ∙ ap falsity_told other)
