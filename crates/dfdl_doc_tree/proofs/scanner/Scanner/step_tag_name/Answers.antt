use Rattle.std.proofs.Common.{◌≡◌, ◌∙◌, sym, ap, false, None, Some, subst}
use Rattle.dfdl_markup.specs.Machine.{StartTag, name_next, whole_name, tag_of, tag_step}
use Rattle.dfdl_xml_names.specs.Shown.{name_of}
use Rattle.dfdl_doc_tree.specs.Shown.{goes_on}
use Rattle.dfdl_doc_tree.specs.ScannerShown.{Answers, open_effect, state_seen}
use Rattle.dfdl_doc_tree.proofs.TagNames.{named_tag, tag_step-other}
use Rattle.dfdl_doc_tree.proofs.scanner.Scanner.step_tag_name.Goals as goal

pub returns-in-Some : goal.returns-in-Some
returns-in-Some c =
    let here = c.args.self.now in
    let there = c.begin_attributes.new.self in
    let name = name_of c.in-Some.name in
    let letter = c.args.c in
    let same = c.in_ok-next.ensures.same c.if-branch.false in
    let none : name_next here.reading letter ≡ None =
    sym c.in_ok-next.ensures.next
    ∙ ap (λ b. goes_on b c.next.new.self) c.if-branch.false in
    let whole : whole_name here.reading ≡ Some name =
    ap whole_name (sym same) ∙ sym c.in-Some.ensures in
    let steps : tag_step (state_seen there) there.tag false letter ≡ tag_step (state_seen here) (tag_of name) false letter =
    ap (λ (t : StartTag). tag_step (state_seen there) t false letter) c.begin_attributes.ensures.tag
    ∙ tag_step-other (state_seen there) (state_seen here) (tag_of name) false letter
    (ap (λ s. s.roots) c.begin_attributes.ensures.same) (ap (λ s. s.frames) c.begin_attributes.ensures.same) in
    named_tag (state_seen here) here.reading letter name c.step_tag.result (state_seen c.step_tag.new.self) none whole
    (subst (λ n. Answers n (open_effect (tag_of name) letter) c.step_tag.result (state_seen c.step_tag.new.self)) steps
    (subst (λ (t : StartTag). Answers (tag_step (state_seen there) there.tag false letter) (open_effect t letter) c.step_tag.result (state_seen c.step_tag.new.self)) c.begin_attributes.ensures.tag
    c.step_tag.ensures))
