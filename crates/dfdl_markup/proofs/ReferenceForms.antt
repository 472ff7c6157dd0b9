-- References as they are written: how one grows, and what may follow where it ends.
use Rattle.std.proofs.Common.{◌≡◌, ℕ, ◌<◌, false, List, [], ◌∷◌, ◌++◌, length, Option}
use Rattle.std.proofs.Common.{Some, None, refl, sym, ap, subst, ◌∙◌, append_assoc, append-nil}
use Rattle.std.proofs.Common.{zero-lt-suc}
use Rattle.dfdl_markup.specs.Grammar.{Reference, Item, Referred}
use Rattle.dfdl_markup.specs.Grammar.{reference_inside, reference_characters}
use Rattle.dfdl_markup.specs.Values.{referred}
use Rattle.dfdl_markup.specs.Rules.{ReferenceKeeps}
use Rattle.dfdl_markup.specs.Machine.{Within, InContent, InValue, OpenValue, Place, AtContent}
use Rattle.dfdl_markup.specs.Machine.{AtValue, NothingAhead, Frame, State, with_text, fixed_value}
use Rattle.dfdl_markup.specs.Machine.{referred_to}
use Rattle.dfdl_markup.proofs.Rest.{ReadAs, WroteValue, WroteWithin, WroteReference, Close, From}
use Rattle.dfdl_markup.proofs.Sound.{IsInside, SoundWithin}
use Rattle.dfdl_markup.proofs.Closing.{grow_reference}
use Rattle.dfdl_markup.proofs.Moves.{at}
use Rattle.dfdl_markup.proofs.TagValues.{read_on, ends_on, value_grows}

-- the state at a place behind all that may come before
abbrev pub standing : Place → ℕ → List Frame → State
standing place begun frames = at NothingAhead place begun frames

-- the place behind a reference to this character
abbrev pub place_behind : Within → ℕ → Place
place_behind InContent d = AtContent 0
place_behind (InValue v) d = AtValue (with_text v (d ∷ []) false)

pub behind_is : (s : State) (within : Within) (d : ℕ)
    → referred_to s within d ≡ standing (place_behind within d) s.begun s.frames
behind_is s InContent d = refl
behind_is s (InValue v) d = refl

-- a reference that goes on by a character
pub reference_more : (n : ℕ) (within : Within) (inside raw : List ℕ) (c : ℕ)
    → WroteReference n within inside raw → WroteReference n within (inside ++ c ∷ [])
    (raw ++ c ∷ [])
reference_more n within inside raw c wrote = (
  wrote.0,
  wrote.1,
  ap (λ l. l ++ c ∷ []) wrote.2 ∙ append_assoc wrote.0 (38 ∷ inside) (c ∷ []),
)

-- the items of a value with a reference behind them
read_more : (o : Option (List ℕ)) (v : OpenValue) (items : List Item) (reference : Reference)
    → o ≡ None → ReadAs o v items
    → ReadAs o (with_text v (referred reference ∷ []) false) (items ++ Referred reference ∷ [])
read_more (Some fixed) v items reference none read = absurd (cc)
read_more None v items reference none read = (
  read_on false items (Referred reference ∷ []) ∙ ap (λ l. l ++ referred reference ∷ []) read.0,
  ends_on false items (Referred reference ∷ []),
)

-- a value with a reference behind it
value_more : (n : ℕ) (v : OpenValue) (front : List ℕ) (reference : Reference)
    → fixed_value v.name ≡ None → ReferenceKeeps n reference → WroteValue n v front
    → WroteValue n (with_text v (referred reference ∷ []) false)
    (front ++ reference_characters reference)
value_more n v front reference none keeps wrote =
    subst (λ l. WroteValue n (with_text v (referred reference ∷ []) false) (front ++ l))
    (append-nil (reference_characters reference))
    (value_grows n v front wrote (Referred reference ∷ []) (referred reference ∷ []) false
    (keeps, tt) (read_more (fixed_value v.name) v wrote.items reference none wrote.read))

some_inside : (frames : List Frame) → IsInside frames → 0 < length frames
some_inside [] inside = absurd inside
some_inside (frame ∷ frames) inside = zero-lt-suc (length frames)

-- what follows behind a reference follows behind its `&` with the reference before it
pub reference_whole : (n begun : ℕ) (frames : List Frame) (within : Within) (reference : Reference)
    (front text : List ℕ) → SoundWithin within begun frames → ReferenceKeeps n reference
    → WroteWithin n within front
    → From n (standing (place_behind within (referred reference)) begun frames) text
    → Close n begun frames 0 (front ++ (reference_characters reference ++ text))
reference_whole n begun frames InContent reference front text sound keeps wrote from =
    subst (λ l. Close n begun frames 0 (l ++ (reference_characters reference ++ text))) (sym wrote)
    (grow_reference n begun frames 0 reference text keeps (λ _. some_inside frames sound)
    (from.whole [] refl))
reference_whole n begun frames (InValue v) reference front text sound keeps wrote from =
    subst (λ l. Close n begun frames 0 l) (append_assoc front (reference_characters reference) text)
    (from.whole (front ++ reference_characters reference)
    (value_more n v front reference wrote.1 keeps wrote.0))

-- the characters in between, in another order
joined : (front inside more text all : List ℕ) → inside ++ more ≡ all
    → (front ++ 38 ∷ inside) ++ (more ++ 59 ∷ text) ≡ front ++ (38 ∷ (all ++ 59 ∷ []) ++ text)
joined front inside more text all is =
    append_assoc front (38 ∷ inside) (more ++ 59 ∷ text)
    ∙ ap (λ l. front ++ 38 ∷ l)
    (sym (append_assoc inside more (59 ∷ text))
    ∙ (ap (λ l. l ++ 59 ∷ text) is ∙ sym (append_assoc all (59 ∷ []) text)))

-- the rest of a reference that is begun, and what follows behind it
pub reference_ends : (n begun : ℕ) (frames : List Frame) (within : Within) (reference : Reference)
    (inside more raw text : List ℕ) → SoundWithin within begun frames → ReferenceKeeps n reference
    → inside ++ more ≡ reference_inside reference → WroteReference n within inside raw
    → From n (standing (place_behind within (referred reference)) begun frames) text
    → Close n begun frames 0 (raw ++ (more ++ 59 ∷ text))
reference_ends n begun frames within reference inside more raw text sound keeps is wrote from =
    subst (λ l. Close n begun frames 0 l)
    (sym (ap (λ l. l ++ (more ++ 59 ∷ text)) wrote.2
    ∙ joined wrote.0 inside more text (reference_inside reference) is))
    (reference_whole n begun frames within reference wrote.0 text sound keeps wrote.1 from)
