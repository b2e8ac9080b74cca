pub mod RepairedPrintable
