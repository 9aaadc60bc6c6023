-- The trial of one rectangle. That of a whole sheet is first_burst, in the specs of mend.
pub mod Trial
