-- The marks that are open, and the bytes that are needed.
use Rattle.std.specs.Prelude.{◌≡◌, ◌<◌, ◌≤◌, ℕ, ◌-◌, ◌*◌, ◌/◌, Bool, true, false, List, [], ◌∷◌, map, if◌then◌else◌}
use Rattle.dfdl_grammar.specs.declared.end.End.{End}
use Rattle.dfdl_grammar.specs.declared.end.End.TheVariants.{Done, Failed, Stopped}
use Rattle.dfdl_grammar.specs.declared.mark.Mark.{Mark}
use Rattle.dfdl_separators.specs.declared.verdict.Here.{Here}
use Rattle.dfdl_separators.specs.declared.progress.Stage.TheVariants as stages
use Rattle.dfdl_separators.specs.declared.verdict.Tried.{Tried}
use Rattle.dfdl_separators.specs.Groups.{here_of}
use Rattle.dfdl_separators.specs.Verdicts.{begins, ends}
use Rattle.dfdl_grammar.specs.Marks.{outer_marks}
use Rattle.dfdl_parse.specs.declared.frame.SlotPlace.{SlotPlace}
use Rattle.dfdl_grammar.specs.Framing.{aligned}
use Rattle.dfdl_grammar.specs.Slots.{has_mark, is_tried, opens_before}
use Rattle.dfdl_grammar.specs.States.{State, anchor_at}
use Rattle.dfdl_parse.specs.declared.frame.Frame.{Frame}
use Rattle.dfdl_parse.specs.declared.frame.Frame.TheVariants.{Rest, Element, Box, Spanning, Scope as ScopeFrame, Trial, Branch, Occurrence, Times, Before, Content, Closing, Aside, Concluding, Instance as InstanceFrame}
use Rattle.dfdl_parse.specs.declared.frame.Focus.{Focus}
use Rattle.dfdl_parse.specs.declared.frame.Focus.TheVariants.{Enter, Pass, PassRest, Sized, Seek, LookIn, LookBehind, Count, Leave}

-- which of the marks are points while a slot is parsed: its own and those around it
abbrev pub slot_points : Here → List Bool → List Bool
slot_points here points = if is_tried here.rule then true ∷ (if has_mark here then false ∷ points else points) else points

-- the same while the separator is sought that it begins with
abbrev pub before_points : Here → List Bool → List Bool
before_points here points = if opens_before here then slot_points here points else points

-- which of the marks are points that are open on a stack, one for each frame of what is tried
abbrev pub points_of : List Frame → List Bool
points_of [] = []
points_of (Rest id next ∷ k) = points_of k
points_of (Element outer complex ∷ k) = points_of k
points_of (Box outer from ∷ k) = points_of k
points_of (Spanning from ∷ k) = points_of k
points_of (ScopeFrame count ∷ k) = points_of k
points_of (Trial id occurrence next ∷ k) = false ∷ points_of k
points_of (Branch id next ∷ k) = true ∷ points_of k
points_of (Occurrence body initiated left ∷ k) = true ∷ points_of k
points_of (Times body left ∷ k) = points_of k
points_of (Before slot ∷ k) = before_points (here_of slot.progress slot.rule) (points_of k)
points_of (Content slot bit empty ∷ k) = slot_points (here_of slot.progress slot.rule) (points_of k)
points_of (Closing slot bit ∷ k) = slot_points (here_of slot.progress slot.rule) (points_of k)
points_of (Aside slot ∷ k) = points_of k
points_of (Concluding statements start ∷ k) = points_of k
points_of (InstanceFrame ∷ k) = points_of k

-- Of these marks only points are resolved, none is behind this bit or behind one inside of it, and the bytes from each on that isn't
-- resolved are needed, which are none before this one.
abbrev pub AreNested : ℕ → ℕ → List Mark → Type 0
AreNested base at [] = Unit {0}
AreNested base at (mark ∷ outer) =
    (mark.is_point ≡ false → mark.is_resolved ≡ false)
    × ((mark.at ≤ at) × ((mark.is_resolved ≡ false → base ≤ mark.at / 8) × AreNested base mark.at outer))

-- these of the marks are points, and they are one inside of the other, with the innermost first
abbrev pub AreSuch : List Bool → ℕ → ℕ → List Mark → Type 0
AreSuch points base at marks = (map (λ mark. mark.is_point) marks ≡ points) × AreNested base at marks

-- the bit of the first of some marks, or this one where there is none
abbrev pub first_at : List Mark → ℕ → ℕ
first_at [] at = at
first_at (mark ∷ outer) at = mark.at

-- the marks outside of those of a slot
abbrev pub outside_slot : Here → List Mark → List Mark
outside_slot here marks = if is_tried here.rule then (if has_mark here then outer_marks (outer_marks marks) else outer_marks marks) else marks

-- the bit of the outermost mark of a slot, or this one where it has none
abbrev pub slot_at : Here → List Mark → ℕ → ℕ
slot_at here marks at =
    if is_tried here.rule then (if has_mark here then first_at (outer_marks marks) (first_at marks at) else first_at marks at) else at

-- the same while the separator is sought that it begins with
abbrev pub outside_before : Here → List Mark → List Mark
outside_before here marks = if opens_before here then outside_slot here marks else marks

abbrev pub before_at : Here → List Mark → ℕ → ℕ
before_at here marks at = if opens_before here then slot_at here marks at else at

-- The content of a slot, which was empty or not, began at this bit, which is none behind the one that comes next, and none before the innermost
-- mark; where that is the slot's only one, it was opened there.
pub record IsContent (slot : SlotPlace) (bit : ℕ) (empty : Bool) (at : ℕ) (marks : List Mark) : Type 0 where
  pub stage : slot.progress.stage ≡ stages.Content slot.rule
  pub full : is_tried slot.rule ≡ false → empty ≡ false
  pub within : bit ≤ at
  pub behind : first_at marks bit ≤ bit
  pub point : is_tried slot.rule ≡ true → has_mark (here_of slot.progress slot.rule) ≡ false → bit ≤ first_at marks bit

-- a separator that a slot ends with is sought
pub record IsClosing (slot : SlotPlace) : Type 0 where
  pub tried : Tried
  pub stage : slot.progress.stage ≡ stages.Behind slot.rule tried
  pub closes : ends (here_of slot.progress slot.rule) ≡ true

-- a separator is looked for behind a slot whose content began at this bit, which comes next
pub record IsAsking (slot : SlotPlace) (bit at : ℕ) (marks : List Mark) : Type 0 where
  pub tried : Tried
  pub stage : slot.progress.stage ≡ stages.Behind slot.rule tried
  pub here : at ≤ bit
  pub point : is_tried slot.rule ≡ true → has_mark (here_of slot.progress slot.rule) ≡ false → bit ≤ first_at marks bit

-- what the frames of slots say of the bits at which their contents began
abbrev pub Lie : ℕ → List Frame → List Mark → Type 0
Lie at [] marks = Unit {0}
Lie at (Rest id next ∷ k) marks = Lie at k marks
Lie at (Element outer complex ∷ k) marks = Lie at k marks
Lie at (Box outer from ∷ k) marks = Lie at k marks
Lie at (Spanning from ∷ k) marks = Lie at k marks
Lie at (ScopeFrame count ∷ k) marks = Lie at k marks
Lie at (Trial id occurrence next ∷ k) marks = Lie (first_at marks at) k (outer_marks marks)
Lie at (Branch id next ∷ k) marks = Lie (first_at marks at) k (outer_marks marks)
Lie at (Occurrence body initiated left ∷ k) marks = Lie (first_at marks at) k (outer_marks marks)
Lie at (Times body left ∷ k) marks = Lie at k marks
Lie at (Before slot ∷ k) marks =
    ((slot.progress.stage ≡ stages.Before slot.rule) × (begins (here_of slot.progress slot.rule) ≡ true))
    × Lie (before_at (here_of slot.progress slot.rule) marks at) k (outside_before (here_of slot.progress slot.rule) marks)
Lie at (Content slot bit empty ∷ k) marks =
    IsContent slot bit empty at marks × Lie (slot_at (here_of slot.progress slot.rule) marks at) k (outside_slot (here_of slot.progress slot.rule) marks)
Lie at (Closing slot bit ∷ k) marks =
    IsClosing slot × Lie (slot_at (here_of slot.progress slot.rule) marks at) k (outside_slot (here_of slot.progress slot.rule) marks)
Lie at (Aside slot ∷ k) marks = Lie at k marks
Lie at (Concluding statements start ∷ k) marks = Lie at k marks
Lie at (InstanceFrame ∷ k) marks = Lie at k marks

-- the open marks are those of what is tried on the stack
abbrev pub AreOpen : ℕ → ℕ → List Frame → List Mark → Type 0
AreOpen base at k marks = AreSuch (points_of k) base at marks × Lie at k marks

-- What is needed behind an end: behind a failure the marks alone, and behind a limit nothing.
abbrev pub NeedsBehind : ℕ → End → List Frame → State → Type 0
NeedsBehind base Done k s = (base ≤ s.at / 8) × AreOpen base s.at k s.marks
NeedsBehind base (Failed cause bit) k s = AreOpen base s.at k s.marks
NeedsBehind base (Stopped cause quantity) k s = Unit {0}

-- What is done next, and what can follow from a mark, needs no byte before this one. Fill has a bit, and so has the rest of a box.
abbrev pub NeedsFrom : ℕ → Focus → List Frame → State → Type 0
NeedsFrom base (Enter id) k s = (base ≤ s.at / 8) × AreOpen base s.at k s.marks
NeedsFrom base (Pass to) k s = (base ≤ (to - 1) / 8) × ((s.at < to) × AreOpen base s.at k s.marks)
NeedsFrom base (PassRest bit outer) k s = (base ≤ bit / 8) × ((bit < s.stop) × ((s.at ≤ bit) × AreOpen base s.at k s.marks))
NeedsFrom base (Sized prim size) k s = (base ≤ s.at / 8) × AreOpen base s.at k s.marks
NeedsFrom base (Seek what) k s = (base ≤ aligned 8 s.at / 8) × AreOpen base s.at k s.marks
NeedsFrom base (LookIn slot) k s =
    (base ≤ s.at / 8)
    × (((slot.progress.stage ≡ stages.Content slot.rule) × (is_tried slot.rule ≡ true))
    × (AreSuch (before_points (here_of slot.progress slot.rule) (points_of k)) base s.at s.marks
    × Lie (before_at (here_of slot.progress slot.rule) s.marks s.at) k (outside_before (here_of slot.progress slot.rule) s.marks)))
NeedsFrom base (LookBehind slot bit) k s =
    (base ≤ s.at / 8)
    × (IsAsking slot bit s.at s.marks
    × (AreSuch (slot_points (here_of slot.progress slot.rule) (points_of k)) base s.at s.marks
    × Lie (slot_at (here_of slot.progress slot.rule) s.marks s.at) k (outside_slot (here_of slot.progress slot.rule) s.marks)))
NeedsFrom base (Count slot question) k s = (base ≤ s.at / 8) × AreOpen base s.at k s.marks
NeedsFrom base (Leave end) k s = NeedsBehind base end k s

-- the innermost mark is at this bit or before it
abbrev pub IsBefore : List Mark → ℕ → Type 0
IsBefore [] at = Unit {0}
IsBefore (mark ∷ outer) at = mark.at ≤ at

-- the content of a slot that waits began at this bit or before it
abbrev pub ComesBack : Frame → ℕ → Type 0
ComesBack (Rest id next) at = Unit {0}
ComesBack (Element outer complex) at = Unit {0}
ComesBack (Box outer from) at = Unit {0}
ComesBack (Spanning from) at = Unit {0}
ComesBack (ScopeFrame count) at = Unit {0}
ComesBack (Trial id occurrence next) at = Unit {0}
ComesBack (Branch id next) at = Unit {0}
ComesBack (Occurrence body initiated left) at = Unit {0}
ComesBack (Times body left) at = Unit {0}
ComesBack (Before slot) at = Unit {0}
ComesBack (Content slot bit empty) at = bit ≤ at
ComesBack (Closing slot bit) at = Unit {0}
ComesBack (Aside slot) at = Unit {0}
ComesBack (Concluding statements start) at = Unit {0}
ComesBack InstanceFrame at = Unit {0}

-- the same of what stands first on a stack
abbrev pub ComesBackIn : List Frame → ℕ → Type 0
ComesBackIn [] at = Unit {0}
ComesBackIn (frame ∷ k) at = ComesBack frame at

-- what ends goes back to no bit behind the one that comes next
abbrev pub GoesBack : End → List Frame → State → Type 0
GoesBack Done k s = IsBefore s.marks s.at × ComesBackIn k s.at
GoesBack (Failed cause bit) k s = IsBefore s.marks s.at × ComesBackIn k s.at
GoesBack (Stopped cause quantity) k s = Unit {0}

-- the bytes from a byte on that are held have those that are needed where this bit comes next
abbrev pub IsHeld : ℕ → ℕ → State → Type 0
IsHeld base bit s = (base ≤ anchor_at s bit) × (anchor_at s bit ≤ bit / 8)

-- the bytes from a byte on that are held have those that what is done next looks at
abbrev pub Holds : ℕ → Focus → List Frame → State → Type 0
Holds base (Enter id) k s = IsHeld base s.at s
Holds base (Pass to) k s = IsHeld base (to - 1) s
Holds base (PassRest bit outer) k s = IsHeld base (8 * (bit / 8)) s
Holds base (Sized prim size) k s = IsHeld base s.at s
Holds base (Seek what) k s = IsHeld base (aligned 8 s.at) s
Holds base (LookIn slot) k s = IsHeld base s.at s
Holds base (LookBehind slot bit) k s = IsHeld base s.at s × IsBefore s.marks s.at
Holds base (Count slot question) k s = IsHeld base s.at s
Holds base (Leave end) k s = GoesBack end k s
