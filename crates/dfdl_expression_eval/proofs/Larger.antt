-- What an expression gives stays while more is known.
use Rattle.std.proofs.Common.{◌≡◌, ℕ, refl, ap, ◌∙◌}
use Rattle.dfdl_value.specs.declared.value.Value.{Value}
use Rattle.dfdl_expression_eval.specs.Asks.{Asks, Is, Fails, Ask, Query, IsLarger, IsSettled, gives, on_known}
use Rattle.dfdl_expression_eval.specs.declared.env.Evaluated.{Evaluated}
use Rattle.dfdl_expression_eval.specs.declared.env.Evaluated.TheVariants.{Known, Wait, Fault}

known_stays : (e f : Evaluated) (g h : Value → Evaluated) → (IsSettled e → f ≡ e) → ((v : Value) → IsSettled (g v) → h v ≡ g v)
    → IsSettled (on_known e g) → on_known f h ≡ on_known e g
known_stays (Known v) f g h same each settled = ap (λ x. on_known x h) (same tt) ∙ each v settled
known_stays (Wait unknown) f g h same each settled = absurd settled
known_stays (Fault cause) f g h same each settled = ap (λ x. on_known x h) (same tt)

-- a value or a fault stays
pub settled_stays : (asks : Asks) (less more : Query → Evaluated) → IsLarger less more → IsSettled (gives asks less) → gives asks more ≡ gives asks less
settled_stays (Is value) less more larger settled = refl
settled_stays (Fails cause) less more larger settled = refl
settled_stays (Ask query rest) less more larger settled =
    known_stays (less query) (more query) (λ v. gives (rest v) less) (λ v. gives (rest v) more) (larger query)
    (λ v ends. settled_stays (rest v) less more larger ends) settled

known_waits : (e : Evaluated) (g : Value → Evaluated) (unknown : ℕ) (P : Type 0) → (e ≡ Wait unknown → P) → ((v : Value) → g v ≡ Wait unknown → P)
    → on_known e g ≡ Wait unknown → P
known_waits (Known v) g unknown P here each is = each v is
known_waits (Wait other) g unknown P here each is = here is
known_waits (Fault cause) g unknown P here each is = absurd (cc)

-- a wait is that of a question
pub wait_is_asked : (asks : Asks) (answers : Query → Evaluated) (unknown : ℕ) → gives asks answers ≡ Wait unknown → (query : Query) × (answers query ≡ Wait unknown)
wait_is_asked (Is value) answers unknown is = absurd (cc)
wait_is_asked (Fails cause) answers unknown is = absurd (cc)
wait_is_asked (Ask query rest) answers unknown is =
    known_waits (answers query) (λ v. gives (rest v) answers) unknown ((q : Query) × (answers q ≡ Wait unknown))
    (λ here. (query, here)) (λ v later. wait_is_asked (rest v) answers unknown later) is

wait_goes : (e f : Evaluated) (g h : Value → Evaluated) (unknown : ℕ) → (IsSettled e → f ≡ e) → (e ≡ Wait unknown → f ≡ Wait unknown)
    → ((v : Value) → g v ≡ Wait unknown → h v ≡ Wait unknown) → on_known e g ≡ Wait unknown → on_known f h ≡ Wait unknown
wait_goes (Known v) f g h unknown same waits each is = ap (λ x. on_known x h) (same tt) ∙ each v is
wait_goes (Wait other) f g h unknown same waits each is = ap (λ x. on_known x h) (waits is)
wait_goes (Fault cause) f g h unknown same waits each is = absurd (cc)

-- a wait stays while the questions that wait for this unknown do
pub wait_stays : (asks : Asks) (less more : Query → Evaluated) (unknown : ℕ) → IsLarger less more
    → ((query : Query) → less query ≡ Wait unknown → more query ≡ Wait unknown) → gives asks less ≡ Wait unknown → gives asks more ≡ Wait unknown
wait_stays (Is value) less more unknown larger waits is = absurd (cc)
wait_stays (Fails cause) less more unknown larger waits is = absurd (cc)
wait_stays (Ask query rest) less more unknown larger waits is =
    wait_goes (less query) (more query) (λ v. gives (rest v) less) (λ v. gives (rest v) more) unknown (larger query) (waits query)
    (λ v later. wait_stays (rest v) less more unknown larger waits later) is
