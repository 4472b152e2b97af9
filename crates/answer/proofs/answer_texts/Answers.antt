-- `answer::answer_texts`: an accepted response ends within its buffer, by what the call promises. Assumes nothing.
use Rattle.answer.proofs.Fits.{accepted-fits, accepted-whole}
use Rattle.answer.proofs.answer_texts.Goals as goal

pub slice_bounds-buffer-end : goal.slice_bounds-buffer-end
slice_bounds-buffer-end g c =
    accepted-fits _ _ _ _ _ _ _ c.answer-outcome.ensures.value c.answer-outcome.ensures.out_after c.if-outcome-ne0.false

pub slice_bounds-response-end : goal.slice_bounds-response-end
slice_bounds-response-end g c =
    accepted-whole _ _ _ _ _ _ _ c.answer-outcome.ensures.value c.answer-outcome.ensures.out_after c.if-outcome-ne0.false
