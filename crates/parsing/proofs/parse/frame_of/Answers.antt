use Rattle.frame.specs.Format.{content, note}
use Rattle.parsing.specs.declared.name.Name.TheVariants.{Start, Post, Get, Off, On, Release, Mend, Note}
use Rattle.parsing.proofs.Figures.{handed_on}
use Rattle.parsing.proofs.Telling.{frame_says, no_frame}
use Rattle.parsing.proofs.parse.frame_of.Goals as goal

pub returns-in_err-items-in-Start : goal.returns-in_err-items-in-Start
returns-in_err-items-in-Start c = handed_on content _ _ c.from_residual.ensures.0 (no_frame _ Start _ c.in-Start.is (λ _ m. c.in_err-items-in-Start.ensures m.0 m.1))

pub returns-in_err-item-in-Post : goal.returns-in_err-item-in-Post
returns-in_err-item-in-Post c = handed_on content _ _ c.from_residual-in_err-item-in-Post.ensures.0 (no_frame _ Post _ c.in-Post.is (λ _ m. c.in_err-item-in-Post.ensures m.0 m.1))

pub returns-in_err-item-in-Get : goal.returns-in_err-item-in-Get
returns-in_err-item-in-Get c = handed_on content _ _ c.from_residual-in_err-item-in-Get.ensures.0 (no_frame _ Get _ c.in-Get.is (λ _ m. c.in_err-item-in-Get.ensures m.0 m.1))

pub returns-in_err-bay-in-Off : goal.returns-in_err-bay-in-Off
returns-in_err-bay-in-Off c = handed_on content _ _ c.from_residual-in_err-bay-in-Off.ensures.0 (no_frame _ Off _ c.in-Off.is (λ _ m. c.in_err-bay-in-Off.ensures m.0 m.1))

pub returns-in_err-bay-in-On : goal.returns-in_err-bay-in-On
returns-in_err-bay-in-On c = handed_on content _ _ c.from_residual-in_err-bay-in-On.ensures.0 (no_frame _ On _ c.in-On.is (λ _ m. c.in_err-bay-in-On.ensures m.0 m.1))

pub returns-in_err-bay-in-Release : goal.returns-in_err-bay-in-Release
returns-in_err-bay-in-Release c = handed_on content _ _ c.from_residual-in_err-bay-in-Release.ensures.0 (no_frame _ Release _ c.in-Release.is (λ _ m. c.in_err-bay-in-Release.ensures m.0 m.1))

pub returns-in_err-bay-in-Mend : goal.returns-in_err-bay-in-Mend
returns-in_err-bay-in-Mend c = handed_on content _ _ c.from_residual-in_err-bay-in-Mend.ensures.0 (no_frame _ Mend _ c.in-Mend.is (λ _ m. c.in_err-bay-in-Mend.ensures m.0 m.1))

pub returns-in_err-note-in-Note : goal.returns-in_err-note-in-Note
returns-in_err-note-in-Note c = handed_on content _ _ c.from_residual-in_err-note-in-Note.ensures.0 (no_frame _ Note _ c.in-Note.is (λ _ m. c.in_err-note-in-Note.ensures m.0 m.1))

pub returns-in_ok-note-in-Note : goal.returns-in_ok-note-in-Note
returns-in_ok-note-in-Note c =
    let text = c.in_ok-note-in-Note.ensures in
    frame_says (note c.in_ok-note-in-Note.field-0.now) _ _ c.in-Note.is text.1 text.0
