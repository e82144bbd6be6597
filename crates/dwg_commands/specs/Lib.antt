-- The exit status that reports how a run ended.
pub mod Status
-- What an input is that a certificate and a drawing are.
pub mod CertifiedInput
-- What is answered of what was read, recovered or made.
pub mod Answered
-- The table of commands: the word of each, whether it reads the input, the lines that it tries, and what it answers.
pub mod Commands
-- The words of the command line, and which commands read the input.
pub mod Words
-- What the program answers to its words and its input.
pub mod Outcome
-- What the program is asked, and which outcome that asks for.
pub mod Jobs
-- What the commands that read answer, said of the header that the input begins with, the classes that it has, the drawing that it spells, and the certificate before one.
pub mod OutcomeLaws
-- What a status means of the input: which drawing it spells, or which certificate and drawing it holds.
pub mod Meaning
-- Which text is sent of what it is made of, and how the run ends then.
pub mod PrintedOutputs
-- Which outcome is sent of what is made of one before it is sent.
pub mod Pendings
-- What a run of the program does to its three devices.
pub mod Run
