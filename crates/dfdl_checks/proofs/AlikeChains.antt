-- Two and three equations at once.
use Rattle.std.proofs.Common.{◌≡◌, ap, ◌∙◌}

-- two equations at once
pub both : {A B C : Type 0} (f : A → B → C) {a x : A} {b y : B} → a ≡ x → b ≡ y → f a b ≡ f x y
both f {a} {x} {b} {y} first second = ap (λ v. f v b) first ∙ ap (f x) second

-- three equations at once
pub three : {A B C D : Type 0} (f : A → B → C → D) {a x : A} {b y : B} {c z : C} → a ≡ x → b ≡ y → c ≡ z → f a b c ≡ f x y z
three f {a} {x} {b} {y} {c} {z} first second third = ap (λ v. f v b c) first ∙ both (f x) second third
