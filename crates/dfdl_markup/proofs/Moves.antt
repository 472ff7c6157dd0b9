-- Answers of steps that read on in a piece of markup, refuse for its form, or are behind it.
use Rattle.std.proofs.Common.{◌≡◌, ℕ, Bool, true, false, List, [], ◌∷◌, ◌++◌, if◌then◌else◌, Result}
use Rattle.std.proofs.Common.{Err, refl, arith}
use Rattle.std.proofs.lemmas.Bool.{cond_both}
use Rattle.dfdl_layers.specs.Tellers.{Each}
use Rattle.dfdl_markup.specs.Machine.{Ahead, MarkAhead, DeclarationAhead, NothingAhead, Place}
use Rattle.dfdl_markup.specs.Machine.{AtContent, Frame, State, wanted}
use Rattle.dfdl_markup.proofs.Rest.{Wrote, Close, brackets_at}
use Rattle.dfdl_markup.proofs.Sound.{SoundAt, SoundAhead, Sound, in_declaration, before_declaration}
use Rattle.dfdl_markup.proofs.Answers.{Good, Leads, Live, Answer}
use Rattle.dfdl_markup.proofs.Closing.{Closing, whole_of_close, moves, moves_on, each_append}

-- the state of these four
abbrev pub at : Ahead → Place → ℕ → List Frame → State
at ahead place begun frames =
    record { ahead = ahead; place = place; begun = begun; frames = frames }

-- a character that no markup has there
pub malformed : (s : State) (c : ℕ) → Answer s c (Err 3)
malformed s c = (omega arith, omega arith, λ less. absurd (omega arith))

-- one more character of the piece, behind which the document may no longer be declared
pub reads_on : (ahead : Ahead) (place next : Place) (begun : ℕ) (frames : List Frame) (c : ℕ)
    → Sound (at ahead place begun frames) → brackets_at place ≡ brackets_at next
    → in_declaration next ≡ false → SoundAt next begun frames
    → ((n : ℕ) (raw : List ℕ) → Wrote n (wanted frames) place raw
    → Wrote n (wanted frames) next (raw ++ c ∷ []))
    → Leads (at ahead place begun frames) c (at NothingAhead next begun frames)
reads_on ahead place next begun frames c sound same outside is wrote = record {
  sound = record { frames = sound.frames; roots = sound.roots; ahead = outside; place = is };
  back = moves (at ahead place begun frames) next c same wrote;
}

ahead_on : (ahead : Ahead) (place next : Place) (begun : ℕ) (frames : List Frame)
    → SoundAhead ahead place begun frames → in_declaration next ≡ false
    → before_declaration next ≡ true → SoundAhead ahead next begun frames
ahead_on MarkAhead place next begun frames sound outside before = (before, sound.1, sound.2)
ahead_on DeclarationAhead place next begun frames sound outside before = (before, sound.1, sound.2)
ahead_on NothingAhead place next begun frames sound outside before = outside

-- and one behind which it may
pub reads_ahead : (ahead : Ahead) (place next : Place) (begun : ℕ) (frames : List Frame) (c : ℕ)
    → Sound (at ahead place begun frames) → brackets_at place ≡ brackets_at next
    → in_declaration next ≡ false → before_declaration next ≡ true → SoundAt next begun frames
    → ((n : ℕ) (raw : List ℕ) → Wrote n (wanted frames) place raw
    → Wrote n (wanted frames) next (raw ++ c ∷ []))
    → Leads (at ahead place begun frames) c (at ahead next begun frames)
reads_ahead ahead place next begun frames c sound same outside before is wrote = record {
  sound = record {
    frames = sound.frames;
    roots = sound.roots;
    ahead = ahead_on ahead place next begun frames sound.ahead outside before;
    place = is;
  };
  back = moves_on (at ahead place begun frames) next c same wrote;
}

pub content_at : (begun : ℕ) (frames : List Frame) → SoundAt (AtContent 0) begun frames
content_at begun [] = refl
content_at begun (frame ∷ frames) = omega arith

-- the last character of a piece, behind which a content comes
pub reads_piece : (ahead : Ahead) (place : Place) (begun : ℕ) (frames : List Frame) (c : ℕ)
    → Sound (at ahead place begun frames)
    → ((n : ℕ) (raw text : List ℕ) → Wrote n (wanted frames) place raw
    → Close n begun frames 0 text
    → Close n begun frames (brackets_at place) (raw ++ c ∷ text))
    → Leads (at ahead place begun frames) c (at NothingAhead (AtContent 0) begun frames)
reads_piece ahead place begun frames c sound grows = record {
  sound = record {
    frames = sound.frames;
    roots = sound.roots;
    ahead = refl;
    place = content_at begun frames;
  };
  back = λ n text from. record {
    whole = λ raw wrote.
        whole_of_close ahead n begun frames (brackets_at place) (raw ++ c ∷ text)
        (grows n raw text wrote (from.whole [] refl));
  };
}

-- some characters that end the piece, and then what closes all
pub live_piece : (ahead : Ahead) (place : Place) (begun : ℕ) (frames : List Frame)
    (ending : List ℕ) → Each Good ending → Closing begun frames 0
    → ((n : ℕ) (raw text : List ℕ) → Wrote n (wanted frames) place raw
    → Close n begun frames 0 text
    → Close n begun frames (brackets_at place) (raw ++ (ending ++ text)))
    → Live (at ahead place begun frames)
live_piece ahead place begun frames ending good closing grows = record {
  more = ending ++ closing.0;
  good = each_append Good ending closing.0 good closing.1;
  from = λ n. record {
    whole = λ raw wrote.
        whole_of_close ahead n begun frames (brackets_at place) (raw ++ (ending ++ closing.0))
        (grows n raw closing.0 wrote (closing.2 n));
  };
}

-- an answer by a test
pub answer_if : (s : State) (c : ℕ) (test : Bool) (first second : Result State ℕ)
    → (test ≡ true → Answer s c first) → (test ≡ false → Answer s c second)
    → Answer s c (if test then first else second)
answer_if s c test first second is not =
    cond_both test first second (λ (r : Result State ℕ). Answer s c r) is not
