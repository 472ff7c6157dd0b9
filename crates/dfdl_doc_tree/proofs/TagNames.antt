-- What steps at a name's end come to.
use Rattle.std.proofs.Common.{◌≡◌, ℕ, false, Some, None, Result, Bool, refl, sym, ap, ◌∙◌, List}
use Rattle.dfdl_markup.specs.Grammar.{Name}
use Rattle.dfdl_markup.specs.Machine.{State, StartTag, Ahead, Place, Frame, Reading, name_next, whole_name, tag_of, tag_step, tag_name_step}
use Rattle.dfdl_markup.specs.Building.{tag_effect}
use Rattle.dfdl_doc_tree.specs.ScannerShown.{Answers, open_effect}
use Rattle.dfdl_doc_tree.specs.declared.effect.Effect.{Effect}
use Rattle.dfdl_doc_tree.specs.declared.rule.Refusal.{Refusal}

pub named_tag : (s : State) (reading : Reading) (c : ℕ) (name : Name) (r : Result Effect Refusal) (t : State)
    → name_next reading c ≡ None → whole_name reading ≡ Some name
    → Answers (tag_step s (tag_of name) false c) (open_effect (tag_of name) c) r t
    → Answers (tag_name_step s reading c) (tag_effect (whole_name reading) c) r t
unfolding tag_name_step
named_tag s reading c name r t none whole answers = rw (none, whole) answers

tag_step-elsewhere : (s : State) (a : Ahead) (p : Place) (tag : StartTag) (spaced : Bool) (c : ℕ)
    → tag_step (record { ahead = a; place = p; begun = s.begun; frames = s.frames }) tag spaced c
    ≡ tag_step s tag spaced c
unfolding tag_step
tag_step-elsewhere s a p tag spaced c = refl

-- a tag's step looks at the open elements and the roots alone
pub tag_step-other : (s t : State) (tag : StartTag) (spaced : Bool) (c : ℕ)
    → s.begun ≡ t.begun → s.frames ≡ t.frames → tag_step s tag spaced c ≡ tag_step t tag spaced c
tag_step-other s t tag spaced c begun frames =
    sym (tag_step-elsewhere s t.ahead t.place tag spaced c)
    ∙ (ap (λ (b : ℕ). tag_step (record { ahead = t.ahead; place = t.place; begun = b; frames = s.frames }) tag spaced c) begun
    ∙ ap (λ (fs : List Frame). tag_step (record { ahead = t.ahead; place = t.place; begun = t.begun; frames = fs }) tag spaced c) frames)
