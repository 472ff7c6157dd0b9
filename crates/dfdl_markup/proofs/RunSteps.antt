-- How a run over what is written ends, by the rules below n, and the steps that it takes.
use Rattle.std.proofs.Common.{◌≡◌, ℕ, ◌==◌, ◌<◌, ◌≤◌, Bool, true, false}
use Rattle.std.proofs.Common.{if◌then◌else◌, List, [], ◌∷◌, ◌++◌, Result, Ok, Err, refl, sym, ap}
use Rattle.std.proofs.Common.{subst, inl, inr}
use Rattle.std.proofs.lemmas.Bool.{cases_lt, eq-eqb}
use Rattle.dfdl_layers.specs.Tellers.{go_on, run}
use Rattle.dfdl_markup.specs.Grammar.{is_white}
use Rattle.dfdl_markup.specs.Rules.{AreWhite}
use Rattle.dfdl_markup.specs.Machine.{Place, Ahead, NothingAhead, Frame, State, step, accepts}

-- by all rules it is accepted, and no rule below n is told
abbrev pub Ends : ℕ → Result State ℕ → Type 0
Ends n (Ok t) = 12 < n → accepts t ≡ true
Ends n (Err m) = n ≤ m

-- the run that goes on over a text from a step's answer ends so
abbrev pub After : ℕ → Result State ℕ → List ℕ → Type 0
After n answer text = Ends n (go_on (λ t. run step t text) answer)

-- the state of these parts
abbrev pub state : Ahead → Place → ℕ → List Frame → State
state ahead place begun frames =
    record { ahead = ahead; place = place; begun = begun; frames = frames }

-- the run from a place where nothing may be declared any more
abbrev pub RunsFrom : ℕ → ℕ → List Frame → Place → List ℕ → Type 0
RunsFrom n begun frames place text =
    Ends n (run step (state NothingAhead place begun frames) text)

pub goes : (n : ℕ) (s t : State) (c : ℕ) (text : List ℕ) → step s c ≡ Ok t
    → Ends n (run step t text) → Ends n (run step s (c ∷ text))
goes n s t c text is ends = subst (λ a. After n a text) (sym is) ends

-- white space that leaves the state
pub whites_stay : (n : ℕ) (s : State) → ((w : ℕ) → is_white w ≡ true → step s w ≡ Ok s)
    → (space text : List ℕ) → AreWhite space → Ends n (run step s text)
    → Ends n (run step s (space ++ text))
whites_stay n s stays [] text are ends = ends
whites_stay n s stays (w ∷ space) text are ends =
    goes n s s w (space ++ text) (stays w are.0) (whites_stay n s stays space text are.1 ends)

-- a rule that is kept only below n isn't told
pub not_under : (n m : ℕ) → (m < n → ⊥) → n ≤ m
not_under n m none = elim (cases_lt m n) [ inl less ↦ absurd (none less) | inr most ↦ most ]

-- a test that holds, and one that doesn't
pub if_true : {A : Type 0} (t : Bool) (x y : A) → t ≡ true → (if t then x else y) ≡ x
if_true t x y e = ap (λ b. if b then x else y) e

pub if_false : {A : Type 0} (t : Bool) (x y : A) → t ≡ false → (if t then x else y) ≡ y
if_false t x y e = ap (λ b. if b then x else y) e

-- an answer that hangs on a test
pub at_test : (n : ℕ) (text : List ℕ) (t : Bool) (x y : Result State ℕ)
    → (t ≡ true → After n x text) → (t ≡ false → After n y text) → After n (if t then x else y) text
at_test n text true x y yea nay = yea refl
at_test n text false x y yea nay = nay refl

pub same_is : (b : ℕ) → (b == b) ≡ true
same_is b = eq-eqb b b refl
