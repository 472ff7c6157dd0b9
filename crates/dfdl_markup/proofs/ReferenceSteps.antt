-- What a step within a reference leads to, and what may be said of one that is refused.
use Rattle.std.proofs.Common.{◌≡◌, ℕ, false, List, [], ◌∷◌, ◌++◌, refl, sym, subst, arith}
use Rattle.dfdl_layers.specs.Tellers.{Each}
use Rattle.dfdl_layers.proofs.Runs.{each-append}
use Rattle.dfdl_markup.specs.Grammar.{Reference, reference_inside}
use Rattle.dfdl_markup.specs.Values.{referred}
use Rattle.dfdl_markup.specs.Rules.{ReferenceKeeps}
use Rattle.dfdl_markup.specs.Machine.{Within, InContent, InValue, Place, Ahead, NothingAhead}
use Rattle.dfdl_markup.specs.Machine.{MarkAhead, DeclarationAhead, Frame, State, referred_to}
use Rattle.dfdl_markup.specs.Machine.{wanted}
use Rattle.dfdl_markup.proofs.Rest.{WroteReference, Wrote, Close, From, brackets_at}
use Rattle.dfdl_markup.proofs.Sound.{KeepsFixed, SoundWithin, SoundAt, in_declaration}
use Rattle.dfdl_markup.proofs.Sound.{before_declaration, Sound}
use Rattle.dfdl_markup.proofs.Answers.{Good, Leads, Told, Live}
use Rattle.dfdl_markup.proofs.Closing.{good_low}
use Rattle.dfdl_markup.proofs.Moves.{at}
use Rattle.dfdl_markup.proofs.ReferenceForms.{standing, place_behind, behind_is, reference_ends}

-- where only nothing may come before any more
pub only_standing : (P : State → Type 0) (ahead : Ahead) (place : Place) (begun : ℕ)
    (frames : List Frame)
    → before_declaration place ≡ false → Sound (at ahead place begun frames)
    → (Sound (standing place begun frames) → P (standing place begun frames))
    → P (at ahead place begun frames)
only_standing P NothingAhead place begun frames late sound holds = holds sound
only_standing P DeclarationAhead place begun frames late sound holds =
    let early = sound.ahead.0 in absurd (cc)
only_standing P MarkAhead place begun frames late sound holds =
    let early = sound.ahead.0 in absurd (cc)

-- a reference that these characters end, before `;`
pub record Ends (n : ℕ) (within : Within) (raw more : List ℕ) (d : ℕ) : Type 0 where
  pub reference : Reference
  pub inside : List ℕ
  pub keeps : ReferenceKeeps n reference
  pub is : inside ++ more ≡ reference_inside reference
  pub wrote : WroteReference n within inside raw
  pub means : referred reference ≡ d

pub behind_within : (begun : ℕ) (frames : List Frame) (within : Within) (d : ℕ)
    → SoundWithin within begun frames → SoundAt (place_behind within d) begun frames
behind_within begun [] InContent d sound = absurd sound
behind_within begun (frame ∷ frames) InContent d sound = omega arith
behind_within begun frames (InValue v) d sound = (
  (
    sound.0.0,
    sound.0.1,
    subst (λ o. KeepsFixed o (v.text ++ d ∷ [])) (sym sound.1) tt,
  ),
  sound.2,
)

no_declaration_behind : (within : Within) (d : ℕ) → in_declaration (place_behind within d) ≡ false
no_declaration_behind InContent d = refl
no_declaration_behind (InValue v) d = refl

-- of the places of a reference
module _ (begun : ℕ) (frames : List Frame) (within : Within) where
  -- another place there
  at_place : (p q : Place) → Sound (standing p begun frames) → in_declaration q ≡ false
      → SoundAt q begun frames → Sound (standing q begun frames)
  at_place p q sound late place =
      record { frames = sound.frames; roots = sound.roots; ahead = late; place = place }

  -- behind the reference
  sound_behind : (p : Place) (d : ℕ) → Sound (standing p begun frames)
      → SoundWithin within begun frames → Sound (standing (place_behind within d) begun frames)
  sound_behind p d sound inside =
      at_place p (place_behind within d) sound (no_declaration_behind within d)
      (behind_within begun frames within d inside)

  from_behind : (p : Place) (n d : ℕ) (more text : List ℕ) → brackets_at p ≡ 0
      → SoundWithin within begun frames
      → ((raw : List ℕ) → Wrote n (wanted frames) p raw → Ends n within raw more d)
      → From n (standing (place_behind within d) begun frames) text
      → From n (standing p begun frames) (more ++ 59 ∷ text)
  from_behind p n d more text none inside ends from = record {
    whole = λ raw w.
        let e = ends raw w in
        subst (λ b. Close n begun frames b (raw ++ (more ++ 59 ∷ text))) (sym none)
        (reference_ends n begun frames within e.reference e.inside more raw text inside e.keeps e.is
        e.wrote
        (subst (λ m. From n (standing (place_behind within m) begun frames) text)
        (sym e.means) from));
  }

  -- the `;`
  pub leads_behind : (p : Place) (c d : ℕ) → c ≡ 59 → Sound (standing p begun frames)
      → SoundWithin within begun frames → brackets_at p ≡ 0
      → ((n : ℕ) (raw : List ℕ) → Wrote n (wanted frames) p raw → Ends n within raw [] d)
      → Leads (standing p begun frames) c (referred_to (standing p begun frames) within d)
  leads_behind p c d is sound inside none ends =
      subst (λ t. Leads (standing p begun frames) c t)
      (sym (behind_is (standing p begun frames) within d))
      (record {
        sound = sound_behind p d sound inside;
        back = λ n text from.
            subst (λ x. From n (standing p begun frames) (x ∷ text)) (sym is)
            (from_behind p n d [] text none inside (ends n) from);
      })

  module _ (behind : (d : ℕ) → Live (standing (place_behind within d) begun frames)) where
    semicolon : Good 59
    semicolon = good_low 59 (omega arith) (omega arith)

    -- the rest of a reference ends the document
    pub live_behind : (p : Place) (d : ℕ) (more : List ℕ) → Each Good more
        → SoundWithin within begun frames → brackets_at p ≡ 0
        → ((n : ℕ) (raw : List ℕ) → Wrote n (wanted frames) p raw → Ends n within raw more d)
        → Live (standing p begun frames)
    live_behind p d more good inside none ends = record {
      more = more ++ 59 ∷ (behind d).more;
      good = each-append Good more (59 ∷ (behind d).more) good (semicolon, (behind d).good);
      from = λ n. from_behind p n d more (behind d).more none inside (ends n) ((behind d).from n);
    }

    -- a character that breaks a rule of references, and one that does so as their last
    pub told_last : (p : Place) (n c d : ℕ) → SoundWithin within begun frames → brackets_at p ≡ 0
        → ((raw : List ℕ) → Wrote n (wanted frames) p raw → Ends n within raw (c ∷ []) d)
        → Told n (standing p begun frames) c
    told_last p n c d inside none ends = record {
      more = 59 ∷ (behind d).more;
      good = (semicolon, (behind d).good);
      from = from_behind p n d (c ∷ []) (behind d).more none inside ends ((behind d).from n);
    }

    pub told_behind : (p : Place) (n c d : ℕ) → c ≡ 59 → SoundWithin within begun frames
        → brackets_at p ≡ 0
        → ((raw : List ℕ) → Wrote n (wanted frames) p raw → Ends n within raw [] d)
        → Told n (standing p begun frames) c
    told_behind p n c d is inside none ends = record {
      more = (behind d).more;
      good = (behind d).good;
      from =
          subst (λ x. From n (standing p begun frames) (x ∷ (behind d).more)) (sym is)
          (from_behind p n d [] (behind d).more none inside ends ((behind d).from n));
    }
