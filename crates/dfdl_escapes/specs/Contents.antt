-- The content of delimited text: the steps of a scan one after the other. 'Simple Types' (escape schemes).
use Rattle.std.specs.Prelude.{◌≡◌, ℕ, zero, suc, ◌-◌, ◌*◌, ◌/◌, ◌<◌, ◌≤◌, Bool, true, false, List, [], ◌∷◌, ◌++◌}
use Rattle.dfdl_bits.specs.declared.window.Seen.{Seen}
use Rattle.dfdl_looks.specs.Asks.{Ask, Answer, Told, ask, and_then}
use Rattle.dfdl_looks.specs.Tallies.{nothing}
use Rattle.dfdl_delims.specs.Lists.{Opened}
use Rattle.dfdl_escapes.specs.declared.character.Character.{Character}
use Rattle.dfdl_escapes.specs.declared.form.Form.{Form}
use Rattle.dfdl_escapes.specs.declared.form.Stand.{Stand}
use Rattle.dfdl_escapes.specs.Steps.{Step, Takes, Passes, Closes, RunsOut, Fails, step_at}

-- a step from where a scan stands comes to this
abbrev pub IsStep : (ℕ → Seen) → (List ℕ → Bool) → List Opened → Form → Stand → Step → Type 0
IsStep look goes_on lists form at step = (ask look (step_at goes_on lists form at) nothing).reached ≡ Told step

-- a step that ends the content
abbrev pub is_end : Step → Bool
is_end (Takes c escaped next) = false
is_end (Passes next) = false
is_end (Closes which) = true
is_end RunsOut = true
is_end (Fails cause) = true

-- Steps one after the other, from where a scan stands, give these characters, each escaped or not; the last one ends the content so,
-- from where the scan stands then.
pub data IsContent (look : ℕ → Seen) (goes_on : List ℕ → Bool) (lists : List Opened) (form : Form) : Stand → List Character → Stand → Step → Type 0 where
  Ended : (at : Stand) (step : Step) → IsStep look goes_on lists form at step → is_end step ≡ true → IsContent look goes_on lists form at [] at step
  Taken : (at next last : Stand) (c : ℕ) (escaped : Bool) (rest : List Character) (step : Step) → IsStep look goes_on lists form at (Takes c escaped next)
      → IsContent look goes_on lists form next rest last step → IsContent look goes_on lists form at (record { c = c; is_escaped = escaped } ∷ rest) last step
  Passed : (at next last : Stand) (rest : List Character) (step : Step) → IsStep look goes_on lists form at (Passes next)
      → IsContent look goes_on lists form next rest last step → IsContent look goes_on lists form at rest last step

-- the characters of a content, each escaped or not, where it ends, and how
pub record Content : Type 0 where
  pub characters : List Character
  pub last : Stand
  pub ends : Step

-- goes on behind these characters by a step
abbrev pub after_step : (List Character → Stand → Ask Content) → List Character → Stand → Step → Ask Content
after_step go read at (Takes c escaped next) = go (read ++ record { c = c; is_escaped = escaped } ∷ []) next
after_step go read at (Passes next) = go read next
after_step go read at (Closes which) = Answer (record { characters = read; last = at; ends = Closes which })
after_step go read at RunsOut = Answer (record { characters = read; last = at; ends = RunsOut })
after_step go read at (Fails cause) = Answer (record { characters = read; last = at; ends = Fails cause })

-- a content behind these characters, in so many steps at most
abbrev pub content_from : (List ℕ → Bool) → List Opened → Form → ℕ → List Character → Stand → Ask Content
content_from goes_on lists form zero read at = Answer (record { characters = read; last = at; ends = RunsOut })
content_from goes_on lists form (suc more) read at =
    and_then (step_at goes_on lists form at) (λ step. after_step (λ next_read next. content_from goes_on lists form more next_read next) read at step)

-- Steps one after the other, from where a scan began behind some characters, pass these characters more and lead to where it stands.
pub data ArePassed (look : ℕ → Seen) (goes_on : List ℕ → Bool) (lists : List Opened) (form : Form) (begin : Stand) (before : List Character) : Stand → List Character → Type 0 where
  NoStep : ArePassed look goes_on lists form begin before begin before
  Gave : (at next : Stand) (read : List Character) (c : ℕ) (escaped : Bool) → ArePassed look goes_on lists form begin before at read
      → IsStep look goes_on lists form at (Takes c escaped next)
      → ArePassed look goes_on lists form begin before next (read ++ record { c = c; is_escaped = escaped } ∷ [])
  PassedMark : (at next : Stand) (read : List Character) → ArePassed look goes_on lists form begin before at read
      → IsStep look goes_on lists form at (Passes next) → ArePassed look goes_on lists form begin before next read

-- the content behind these characters, from where a scan stands: one step for each byte of the box that is left, and the last one, are enough
abbrev pub rest_of : (List ℕ → Bool) → List Opened → Form → List Character → Stand → Ask Content
rest_of goes_on lists form read at = content_from goes_on lists form (suc (form.stop / 8 - at.byte)) read at

-- the content from where a scan stands
abbrev pub content_at : (List ℕ → Bool) → List Opened → Form → Stand → Ask Content
content_at goes_on lists form at = rest_of goes_on lists form [] at

-- a step goes on behind at least one byte, in the box
abbrev pub MovesOn : Form → Stand → Step → Type 0
MovesOn form at (Takes c escaped next) = (at.byte < next.byte) × (8 * next.byte ≤ form.stop)
MovesOn form at (Passes next) = (at.byte < next.byte) × (8 * next.byte ≤ form.stop)
MovesOn form at (Closes which) = Unit {0}
MovesOn form at RunsOut = Unit {0}
MovesOn form at (Fails cause) = Unit {0}
